-- The number with the same 64 bits, as the machine has it and as the definition does.
use Rattle.std.proofs.Common.{◌≡◌, ℕ, ◌-◌, ◌^◌, ◌<◌, ltb, Bool, true, false, suc, pos, negsuc, refl, ◌∙◌, w64}
use borrow.Author.Tests.{lt-ltb}
use lib.IntN.{sub_ℕ}
use mir.Val.{sel, to_z}
use Rattle.answer_rules.specs.Word.{word_of}
use Rattle.answer_rules.proofs.Bits.{kept}
use Rattle.answer_words.proofs.word.Goals as goal

by_half : (b : Bool) (n : ℕ) → n < 2 ^ 64 → sel b (pos n) (negsuc (2 ^ 64 - suc n)) ≡ elim b [ true ↦ pos n | false ↦ sub_ℕ n (2 ^ 64) ]
by_half true n h = refl
by_half false n h = rw (lt-ltb n (2 ^ 64) h) refl

as_bits : (n : ℕ) → n < 2 ^ 64 → to_z w64 n ≡ word_of n
unfolding word_of
as_bits n h = by_half (ltb n (2 ^ 63)) n h

pub returns : goal.returns
returns c = kept c.cast_signed.result c.args.n c.cast_signed.type_inv (c.cast_signed.ensures ∙ as_bits c.args.n c.ranges.n.fits)
