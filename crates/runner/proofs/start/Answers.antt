-- The check's fault, or the addition's, or the number of edits.
use Rattle.std.proofs.Common.{sym, ◌∙◌}
use Rattle.runner_rules.proofs.Outcome.{check_refused, add_refused, both_passed}
use Rattle.edit_rules.specs.State.{state}
use Rattle.adder_rules.proofs.Sum.{buffer_lent}
use Rattle.ring.specs.declared.Operation.TheVariants.{Plus}
use Rattle.faults.specs.Outcome.{at_exit}
use Rattle.faults.proofs.Answer.{exit_states}
use Rattle.faults.proofs.Exit.{exit_lent}
use mathlib.Core.Path.{sym, ◌∙◌}
use Rattle.runner.proofs.start.Goals as goal

pub returns-in_err-check : goal.returns-in_err-check
unfolding at_exit
returns-in_err-check c =
    let a = c.args in
    let exit = exit_states (λ f. f) _ _ c.from_residual.ensures.1 in
    let lent = state a.first.now a.second.now a.sum.now in
    record { outcome = exit ∙ check_refused a.table.now lent a.edits _ _ _ c.in_err-check.ensures; sum = exit_lent _ _ _ _ a.sum.now _ (sym exit) }

pub returns-in_err-add : goal.returns-in_err-add
returns-in_err-add c =
    let a = c.args in
    let exit = exit_states (λ f. f) _ _ c.from_residual-in_err-add.ensures.1 in
    let lent = state a.first.now a.second.now a.sum.now in
    let is = c.in_err-add.ensures.outcome in
    record {
      outcome = exit ∙ add_refused a.table.now lent a.edits _ c.in_ok-check.ensures _ _ _ is;
      sum = c.in_err-add.ensures.sum ∙ sym (buffer_lent Plus a.table.now a.first.now a.second.now a.sum.now _ _ _ is) ∙ exit_lent _ _ _ _ a.sum.now _ (sym exit);
    }

pub returns : goal.returns
unfolding at_exit
returns c =
    let a = c.args in
    let lent = state a.first.now a.second.now a.sum.now in
    record { outcome = both_passed a.table.now lent a.edits _ c.in_ok-check.ensures _ c.in_ok-add.ensures.outcome; sum = c.in_ok-add.ensures.sum }
