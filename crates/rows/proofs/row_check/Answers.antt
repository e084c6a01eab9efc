-- One check, and the next where it found nothing.
use mathlib.Core.Path.{◌∙◌, ap}
use Rattle.faults.proofs.Passed.{passed_first, passed_next}
use Rattle.faults.specs.Passed.{passed}
use Rattle.row_rules.specs.Check.{judge_one, row_check}
use Rattle.rows.proofs.row_check.Goals as goal

pub returns-in_err-judge_one : goal.returns-in_err-judge_one
unfolding row_check
returns-in_err-judge_one c = passed_first _ _ c.from_residual.ensures.1 (rw c.lengths_allowed.ensures at c.in_err-judge_one.ensures)

pub returns-in_err-index_check : goal.returns-in_err-index_check
unfolding row_check
returns-in_err-index_check c = passed_first _ _ c.from_residual-in_err-index_check.ensures.1 c.in_err-index_check.ensures ∙ passed_next _ _ (rw c.lengths_allowed.ensures at c.in_ok-judge_one.ensures)

pub returns-in_err-index_check-2 : goal.returns-in_err-index_check-2
unfolding row_check
returns-in_err-index_check-2 c =
    passed_first _ _ c.from_residual-in_err-index_check-2.ensures.1 c.in_err-index_check-2.ensures
    ∙ passed_next _ _ c.in_ok-index_check.ensures
    ∙ passed_next _ _ (rw c.lengths_allowed.ensures at c.in_ok-judge_one.ensures)

pub returns : goal.returns
unfolding row_check
returns c =
    c.judge_one-2.ensures ∙ ap (λ x. passed (judge_one 23 x)) c.has_room.ensures
    ∙ passed_next _ _ c.in_ok-index_check-2.ensures
    ∙ passed_next _ _ c.in_ok-index_check.ensures
    ∙ passed_next _ _ (rw c.lengths_allowed.ensures at c.in_ok-judge_one.ensures)
