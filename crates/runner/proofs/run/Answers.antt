-- The shortest of the six slices, the check and the addition, then the edits where neither refused.
use Rattle.runner_rules.proofs.Outcome.{nothing_ran, edits_ran}
use Rattle.runner_rules.proofs.Steps.{length_edits}
use Rattle.runner_rules.specs.Run.{edit_count, asked_edits, run_outcome}
use Rattle.runner_rules.specs.Told.{groups_of, numbers_of, values_of}
use Rattle.edit_rules.specs.Run.{Ran}
use Rattle.edit_rules.specs.State.{state}
use Rattle.faults.proofs.Exit.{exit_lent, exit_written}
use Rattle.faults.proofs.Answer.{exit_states}
use Rattle.lists.proofs.Overwrite.{overwrite_none}
use Rattle.lists.specs.Overwrite.{overwrite}
use Prim.Native.Nat.{ℕ, min}
use mathlib.Core.Path.{◌≡◌, refl, sym, ap, ap₂, ◌∙◌}
use Rattle.runner.proofs.run.Goals as goal

-- the least of six lengths as the code takes it
shortest : (a b c d e f : ℕ) {bc l ef t n : ℕ} → bc ≡ min b c → l ≡ min a bc → ef ≡ min e f → t ≡ min d ef → n ≡ min l t → n ≡ min (min a (min b c)) (min d (min e f))
shortest a b c d e f inner listed other answered all = all ∙ ap₂ min (listed ∙ ap (min a) inner) (answered ∙ ap (min d) other)

pub returns-in_err-ran : goal.returns-in_err-ran
returns-in_err-ran c =
    let a = c.args in
    let s = state a.first.now a.second.now a.sum.now in
    let m = edit_count a.rows.now a.places.now a.digits.now a.whose.now a.numbers.now a.values.now in
    let count = c.min-count in
    let begun = c.in_err-ran in
    let counted : count.result ≡ m = shortest _ _ _ _ _ _ c.min.ensures c.min-listed.ensures c.min-2.ensures c.min-answered.ensures count.ensures in
    let is = begun.ensures.outcome ∙ ap (run_outcome a.table.now s) (counted ∙ sym (length_edits a.rows.now a.places.now a.digits.now m)) in
    let exit = exit_states (λ f. f) _ _ c.from_residual.ensures.1 in
    let es = asked_edits a.rows.now a.places.now a.digits.now a.whose.now a.numbers.now a.values.now in
    let ran = nothing_ran a.table.now s es _ _ _ is in
    let kept = begun.ensures.sum ∙ sym (exit_lent _ _ _ _ a.sum.now _ refl) in record {
      outcome = exit ∙ is;
      buffers = ap (state a.first.now a.second.now) kept ∙ ap (λ (r : Ran). r.buffers) ran;
      answers = (
        sym (overwrite_none a.whose.now 0) ∙ ap (λ (r : Ran). overwrite a.whose.now 0 (groups_of r.answers)) ran,
        sym (overwrite_none a.numbers.now 0) ∙ ap (λ (r : Ran). overwrite a.numbers.now 0 (numbers_of r.answers)) ran,
        sym (overwrite_none a.values.now 0) ∙ ap (λ (r : Ran). overwrite a.values.now 0 (values_of r.answers)) ran,
      );
    }

pub returns : goal.returns
returns c =
    let a = c.args in
    let s = state a.first.now a.second.now a.sum.now in
    let m = edit_count a.rows.now a.places.now a.digits.now a.whose.now a.numbers.now a.values.now in
    let count = c.min-count in
    let begun = c.in_ok-ran in
    let counted : count.result ≡ m = shortest _ _ _ _ _ _ c.min.ensures c.min-listed.ensures c.min-2.ensures c.min-answered.ensures count.ensures in
    let is = begun.ensures.outcome ∙ ap (run_outcome a.table.now s) (counted ∙ sym (length_edits a.rows.now a.places.now a.digits.now m)) in
    let summed = begun.ensures.sum ∙ sym (exit_written _ _ a.sum.now _ refl) in
    let ran = edits_ran a.table.now s a.rows.now a.places.now a.digits.now m count.result counted _ summed _ is in record {
      outcome = is;
      buffers = c.edit_each.ensures.buffers ∙ ap (λ (r : Ran). r.buffers) ran;
      answers = (
        c.edit_each.ensures.answers.0 ∙ ap (λ (r : Ran). overwrite a.whose.now 0 (groups_of r.answers)) ran,
        c.edit_each.ensures.answers.1 ∙ ap (λ (r : Ran). overwrite a.numbers.now 0 (numbers_of r.answers)) ran,
        c.edit_each.ensures.answers.2 ∙ ap (λ (r : Ran). overwrite a.values.now 0 (values_of r.answers)) ran,
      );
    }
