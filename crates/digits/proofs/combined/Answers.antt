-- By the operation: the sum of the two elements, or their difference.
use mathlib.Core.Path.{sym, subst, ◌∙◌}
use Prim.Native.Nat.{◌^◌}
use native.Mathlib.Omega.{arith}
use Rattle.ring.proofs.Element.{within_le, within_plus, within_minus}
use Rattle.ring.specs.Operation.{combine}
use Rattle.ring.specs.Tests.{Within}
use Rattle.digits.proofs.combined.Goals as goal

pub sum-requires : goal.sum-requires
sum-requires c = (within_le 32768 (2 ^ 61) _ (omega arith) c.record_at-x.ensures.within, within_le 32768 (2 ^ 61) _ (omega arith) c.record_at-y.ensures.within)

pub difference-requires : goal.difference-requires
difference-requires c = (within_le 32768 (2 ^ 61) _ (omega arith) c.record_at-x.ensures.within, within_le 32768 (2 ^ 61) _ (omega arith) c.record_at-y.ensures.within)

pub returns-in-Plus : goal.returns-in-Plus
returns-in-Plus c =
    let told = sym c.in-Plus.is in
    record { element = c.sum.ensures ∙ (λ i. combine (told i) (c.record_at-x.ensures.element i) (c.record_at-y.ensures.element i)); within = subst (Within 65536) (sym c.sum.ensures) (within_plus 32768 32768 _ _ c.record_at-x.ensures.within c.record_at-y.ensures.within) }

pub returns-in-Minus : goal.returns-in-Minus
returns-in-Minus c =
    let told = sym c.in-Minus.is in
    record { element = c.difference.ensures ∙ (λ i. combine (told i) (c.record_at-x.ensures.element i) (c.record_at-y.ensures.element i)); within = subst (Within 65536) (sym c.difference.ensures) (within_minus 32768 32768 _ _ c.record_at-x.ensures.within c.record_at-y.ensures.within) }
