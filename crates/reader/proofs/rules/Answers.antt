-- Three stages in turn: the first that finds something is the answer.
use mathlib.Core.Path.{sym, ◌∙◌}
use Rattle.faults.proofs.Passed.{passed_first, passed_next, ok_kept}
use Rattle.reader_rules.specs.Check.{table_check}
use Rattle.reader.proofs.rules.Goals as goal

pub returns-in_err-layout_rules : goal.returns-in_err-layout_rules
unfolding table_check
returns-in_err-layout_rules c = passed_first _ _ c.from_residual.ensures.1 c.in_err-layout_rules.ensures

pub digit_rules-requires : goal.digit_rules-requires
digit_rules-requires c = ok_kept _ (sym c.in_ok-layout_rules.ensures)

pub returns-in_err-digit_rules : goal.returns-in_err-digit_rules
unfolding table_check
returns-in_err-digit_rules c = passed_first _ _ c.from_residual-in_err-digit_rules.ensures.1 c.in_err-digit_rules.ensures ∙ passed_next _ _ c.in_ok-layout_rules.ensures

pub leaf_rules-requires : goal.leaf_rules-requires
leaf_rules-requires c = ok_kept _ (sym c.in_ok-layout_rules.ensures)

pub returns : goal.returns
unfolding table_check
returns c = c.leaf_rules.ensures ∙ passed_next _ _ c.in_ok-digit_rules.ensures ∙ passed_next _ _ c.in_ok-layout_rules.ensures
