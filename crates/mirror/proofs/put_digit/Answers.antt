-- The digit and then its mirror image.
use Rattle.mirror_rules.specs.Half.{image_number, bits_of, put_number, put_digit}
use Prim.Native.Nat.{ℕ, ◌+◌, ◌*◌}
use mathlib.Core.Bool.{true, false}
use mathlib.Core.Path.{ap, ◌∙◌}
use Rattle.mirror.proofs.put_digit.Goals as goal

pub returns : goal.returns
unfolding put_digit
returns c = c.put_number-2.ensures ∙ (λ j. put_number ((c.put_number.ensures ∙ (λ h. put_number c.args.out.now (c.args.at + 4 * c.args.k) ((c.bits.ensures ∙ ap (λ (b : ℕ). bits_of (image_number false b)) c.byte_at-byte.ensures) h))) j) (c.args.at + 4 * (c.mirror.ensures.index j)) ((c.bits-2.ensures ∙ ap (λ (b : ℕ). bits_of (image_number true b)) c.byte_at-byte.ensures) j))
