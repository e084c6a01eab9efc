-- One check, and the next where it found nothing.
use mathlib.Core.Path.{◌∙◌}
use Rattle.faults.proofs.Passed.{passed_first, passed_next}
use Rattle.row_rules.specs.Check.{edit_check}
use Rattle.rows.proofs.edit_check.Goals as goal

pub returns-in_err-judge_one : goal.returns-in_err-judge_one
unfolding edit_check
returns-in_err-judge_one c = passed_first _ _ c.from_residual.ensures.1 c.in_err-judge_one.ensures

pub returns-in_err-judge_one-2 : goal.returns-in_err-judge_one-2
unfolding edit_check
returns-in_err-judge_one-2 c = passed_first _ _ c.from_residual-in_err-judge_one-2.ensures.1 c.in_err-judge_one-2.ensures ∙ passed_next _ _ c.in_ok-judge_one.ensures

pub returns : goal.returns
unfolding edit_check
returns c = c.judge_one-3.ensures ∙ passed_next _ _ c.in_ok-judge_one-2.ensures ∙ passed_next _ _ c.in_ok-judge_one.ensures
