-- A check's refusal, or what follows.
use mathlib.Core.Path.{◌≡◌, sym, ap, ◌∙◌}
use native.Mathlib.Decide.{ℕ_discrete}
use borrow.Author.Tests.{eq-eqb, ne_eqb}
use Rattle.faults.specs.declared.Refusal.{Refusal}
use Rattle.faults.specs.Check.{◌then◌}
use Rattle.faults.specs.Outcome.{Group, Outcome, facts, refused}
use Rattle.faults.specs.Unless.{unless}
use Rattle.faults.proofs.Check.{then_found, then_next}
use Rattle.faults.proofs.Exit.{facts_no_fault}

module _ {F : Type 0} (whose : Group) where
  pub unless_found : (a : Refusal) (rest : Outcome F) → (a.number ≡ 0 → ⊥) → unless whose a rest ≡ refused whose a.number a.place
  unfolding unless
  unless_found a rest some = rw (ne_eqb a.number 0 some, unless)

  pub unless_none : (a : Refusal) (rest : Outcome F) → a.number ≡ 0 → unless whose a rest ≡ rest
  unfolding unless
  unless_none a rest z = rw (eq-eqb a.number 0 z, unless)

-- two checks of one group, one after the other
pub unless_then : {F : Type 0} (whose : Group) (a b : Refusal) (rest : Outcome F) → unless whose a (unless whose b rest) ≡ unless whose (a then b) rest
unless_then whose a b rest =
    elim (ℕ_discrete a.number 0) [
      | yes z ↦ unless_none whose a (unless whose b rest) z ∙ ap (λ (r : Refusal). unless whose r rest) (sym (then_next a b z))
      | no some ↦ unless_found whose a (unless whose b rest) some ∙ sym (unless_found whose a rest some) ∙ ap (λ (r : Refusal). unless whose r rest) (sym (then_found a b some))
    ]

-- facts: the check found nothing
pub accepted_nothing : {F : Type 0} (whose : Group) (a : Refusal) (answer : F) → unless whose a (facts answer) ≡ facts answer → a.number ≡ 0
accepted_nothing whose a answer e =
    elim (ℕ_discrete a.number 0) [
      | yes z ↦ z
      | no some ↦ absurd (facts_no_fault (unless whose a (facts answer)) answer whose a.number a.place e (unless_found whose a (facts answer) some))
    ]
