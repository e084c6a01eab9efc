-- The head, the digits and the leaves, written in turn.
use native.Mathlib.Omega.{arith}
use Rattle.mirror_rules.proofs.Put.{file_written}
use Rattle.mirror.proofs.mirrored.Goals as goal

pub put_leaves-requires : goal.put_leaves-requires
put_leaves-requires c = record { sections = (c.section_start-3.ensures.within, c.section_start-4.ensures.within); shape = (omega (arith, c.requires.digits), c.requires.head.2, c.requires.leaves) }

pub returns : goal.returns
returns c =
    let a = c.args in
    file_written a.head.now a.alphabet.now a.inputs.now a.lengths.now a.words.now a.weights.now a.width _ _ _ _ a.out.now _ _ _ _ c.section_start.ensures.start c.section_start-2.ensures.start c.section_start-3.ensures.start c.section_start-4.ensures.start c.put.ensures.written c.put_digits.ensures c.put_digits-2.ensures c.put_leaves.ensures
