-- The weight of leaf 0 is compared with zero.
use mathlib.Core.List.{List}
use mathlib.Core.Path.{sym, ap, ◌∙◌}
use native.Mathlib.Omega.{arith}
use lib.IntN.{ℤ}
use Rattle.leaf_rules.proofs.Leaf.{weight_there}
use Rattle.ring.specs.Padded.{width}
use Rattle.faults.proofs.Passed.{once_passed, once_found}
use Rattle.ring.specs.Element.{zeros}
use Rattle.ring.specs.Tests.{same}
use Rattle.prefix_rules.specs.Check.{zero_check}
use Rattle.prefix_scan.proofs.zero_weight.Goals as goal

pub returns-then-equal : goal.returns-then-equal
unfolding zero_check
returns-then-equal c =
    once_passed 13 (λ k. k) _ (ap (λ (x : List ℤ). same x (zeros width)) (weight_there _ 0 c.requires ∙ sym c.weight.ensures.weight) ∙ sym c.equal.ensures ∙ c.if-equal.true)

pub returns-else-equal : goal.returns-else-equal
unfolding zero_check
returns-else-equal c =
    once_found 13 (λ k. k) _ (omega arith) (ap (λ (x : List ℤ). same x (zeros width)) (weight_there _ 0 c.requires ∙ sym c.weight.ensures.weight) ∙ sym c.equal.ensures ∙ c.if-equal.false)
