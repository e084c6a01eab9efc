-- A word that begins with zero counts alone, any other with its mirror image.
use Rattle.mirror_rules.proofs.Place.{images_one, images_two}
use Rattle.mirror_rules.proofs.Put.{start_small}
use native.Mathlib.Omega.{arith}
use lib.Dec.{ltb}
use Prim.Native.Nat.{ℕ, ◌+◌}
use mathlib.Core.Bool.{cond}
use mathlib.Core.Path.{sym, ap, ◌∙◌}
use Rattle.mirror.proofs.images_below.Goals as goal

pub overflow_mul-shape : goal.overflow_mul-shape
overflow_mul-shape c = omega (arith, start_small c.args.shape.width c.args.k c.requires.1 c.requires.2)

pub returns-then-byte_at-eq0 : goal.returns-then-byte_at-eq0
returns-then-byte_at-eq0 c = record { images = c.below-stored.ensures.one ∙ ap (λ (n : ℕ). cond (ltb n c.args.limit) 1 0) c.number.ensures ∙ sym (images_one c.args.shape.positive c.args.shape.width c.args.words.now c.args.limit c.args.k (sym c.byte_at.ensures ∙ c.if-byte_at-eq0.true)); within = omega (arith, c.below-stored.ensures.within) }

pub returns-else-byte_at-eq0 : goal.returns-else-byte_at-eq0
returns-else-byte_at-eq0 c = record { images = (λ i. (c.below-stored.ensures.one ∙ ap (λ (n : ℕ). cond (ltb n c.args.limit) 1 0) c.number.ensures) i + (c.below.ensures.one ∙ ap (λ (n : ℕ). cond (ltb n c.args.limit) 1 0) c.number-else-byte_at-eq0.ensures) i) ∙ sym (images_two c.args.shape.positive c.args.shape.width c.args.words.now c.args.limit c.args.k (λ e. c.if-byte_at-eq0.false (c.byte_at.ensures ∙ e))); within = omega (arith, c.below-stored.ensures.within, c.below.ensures.within) }
