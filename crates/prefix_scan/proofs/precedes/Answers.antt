-- The comparison of the two words as they are read from their places.
use mathlib.Core.Path.{◌∙◌, ap₂}
use Prim.Native.Nat.{min}
use native.Mathlib.Omega.{arith}
use Rattle.leaf_rules.proofs.Leaf.{leaves_most}
use Rattle.layout_rules.specs.Section.{of_degree}
use Rattle.look_up.proofs.Comparison.{words_read}
use Rattle.prefix_scan.proofs.precedes.Goals as goal

pub overflow_add-leaf : goal.overflow_add-leaf
overflow_add-leaf c = let s = c in omega (arith, s.requires, leaves_most (of_degree s.args.degree s.args.leaves.now))

pub overflow_add-leaf-2 : goal.overflow_add-leaf-2
overflow_add-leaf-2 c = let s = c in omega (arith, s.requires, leaves_most (of_degree s.args.degree s.args.leaves.now))

pub returns : goal.returns
returns c =
    let a = c.args in
    let word-start = c.word_start-a in
    let word-start2 = c.word_start-b in
    c.lower.ensures ∙ words_read (of_degree a.degree a.leaves.now) a.words.now _ _ _ _ _ word-start.ensures.start word-start2.ensures.start
    (c.min-n.ensures ∙ ap₂ min c.word_length.ensures.size c.word_length-2.ensures.size)
