-- One check, and the next where it found nothing.
use mathlib.Core.Path.{◌∙◌}
use Rattle.faults.proofs.Passed.{passed_first, passed_next}
use Rattle.row_rules.specs.Check.{one_row_check}
use Rattle.rows.proofs.one_row_check.Goals as goal

pub returns-in_err-digits_check : goal.returns-in_err-digits_check
unfolding one_row_check
returns-in_err-digits_check c = passed_first _ _ c.from_residual.ensures.1 c.in_err-digits_check.ensures

pub returns : goal.returns
unfolding one_row_check
returns c = c.index_check.ensures ∙ passed_next _ _ c.in_ok-digits_check.ensures
