-- The part of section 4 by its bounds as read; nothing where there is no such leaf or it points outside.
use native.Mathlib.Omega.{arith}
use Rattle.layout_rules.specs.Section.{of_degree}
use Rattle.leaf_rules.proofs.Leaf.{word_missing, word_outside, word_read}
use Rattle.leaves.proofs.word.Goals as goal

pub returns-then-leaf_count-leaf : goal.returns-then-leaf_count-leaf
returns-then-leaf_count-leaf c = word_missing (of_degree c.args.degree c.args.leaves.now) c.args.words.now c.args.leaf (omega arith)

pub returns-then-words-end : goal.returns-then-words-end
returns-then-words-end c = word_outside (of_degree c.args.degree c.args.leaves.now) c.args.words.now c.args.leaf (omega arith) (omega arith)

pub returns : goal.returns
returns c =
    let a = c.args in
    word_read (of_degree a.degree a.leaves.now) a.words.now a.leaf _ _ c.word_start-start.ensures.start c.word_length.ensures.size (omega arith) c.if-words-end.false
