-- The bits of a mirror image and those of the number are 65,536 together, or zero.
use Rattle.mirror_rules.proofs.Mirror.{bits_turned, bits_kept}
use Rattle.mirror_rules.specs.Half.{image_number, bits_of}
use Prim.Native.Nat.{ℕ, ◌-◌, ◌%◌}
use mathlib.Core.Path.{sym, ap, ◌∙◌}
use Rattle.mirror.proofs.bits.Goals as goal

pub returns-then-mirrored : goal.returns-then-mirrored
returns-then-mirrored c = ap (λ (n : ℕ). (65536 - n) % 65536) c.stored_bits-stored.ensures.bits ∙ sym (bits_turned c.args.byte c.stored_bits-stored.ensures.within.1) ∙ (λ i. bits_of (image_number (sym c.if-mirrored.true i) c.args.byte))

pub returns-else-mirrored : goal.returns-else-mirrored
returns-else-mirrored c = c.stored_bits-stored.ensures.bits ∙ sym (bits_kept c.args.byte) ∙ (λ i. bits_of (image_number (sym c.if-mirrored.false i) c.args.byte))
