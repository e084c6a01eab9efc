-- Laws for a call that runs a check in a group's name: it ends with the fault, or goes on.
use mathlib.Core.Path.{◌≡◌, sym, ap, ◌∙◌}
use Rattle.std.proofs.Common.{Result, Ok, Err}
use Rattle.std.specs.Result.{IsErrAnd}
use Rattle.std.proofs.lemmas.Result.{err_from_is_err_and}
use Rattle.faults.specs.declared.Refusal.{Refusal}
use Rattle.faults.specs.declared.Fault.{Fault}
use Rattle.faults.specs.Outcome.{Group, Outcome, refused}
use Rattle.faults.specs.Stated.{refused_by}
use Rattle.faults.specs.Answer.{outcome_by}
use Rattle.faults.specs.Passed.{passed}
use Rattle.faults.specs.Unless.{unless}
use Rattle.faults.proofs.Unless.{unless_found, unless_none}
use Rattle.faults.proofs.Passed.{ok_kept, err_found}

-- what a call that ends with `?` states: the fault that it met
pub exit_states : {A F : Type 0} (told : A → F) (r : Result A Fault) (e : Fault) → IsErrAnd r (λ x. x ≡ e) → outcome_by told r ≡ refused_by e
exit_states told r e ends =
    let p = err_from_is_err_and r ends in
    ap (outcome_by told) p.1 ∙ ap refused_by p.2

module _ {F : Type 0} (whose : Group) (a : Refusal) (rest : Outcome F) where
  pub fault_found : {e : Refusal} (fault : Fault) → Err e ≡ passed a → refused_by {F = F} fault ≡ refused whose e.number e.place → refused_by fault ≡ unless whose a rest
  fault_found {e} fault h is =
      let found = err_found a e (sym h) in
      is ∙ ap (λ (r : Refusal). refused whose r.number r.place) found.0 ∙ sym (unless_found whose a rest found.1)

  pub nothing_found : {u : Unit} → Ok u ≡ passed a → rest ≡ unless whose a rest
  nothing_found h = sym (unless_none whose a rest (ok_kept a (sym h)))
