-- The numbers of the record and then the word.
use Rattle.mirror_rules.proofs.Put.{leaf_written}
use Rattle.mirror_rules.specs.Half.{image_number, bits_of}
use Prim.Native.Nat.{ℕ}
use mathlib.Core.Path.{ap, ◌∙◌}
use Rattle.mirror.proofs.put_leaf.Goals as goal

pub returns : goal.returns
returns c =
    let a = c.args in
    let bits = c.bits.ensures ∙ ap (λ (b : ℕ). bits_of (image_number a.mirrored b)) c.byte_at-2.ensures in
    leaf_written a.shape.positive a.shape.width a.words.now a.lengths.now a.weights.now a.at.leaves a.at.words a.mirrored a.k _ _ _ _ _ a.out.now _ _ _ _ c.number.ensures c.place_of-place.ensures.leaf c.place_of-place.ensures.word (c.from-size.ensures ∙ c.byte_at.ensures) bits c.put_number.ensures c.put_number-2.ensures c.put_number-3.ensures c.put_word.ensures
