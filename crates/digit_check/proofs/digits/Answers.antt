-- Three rules in turn: the first that finds something is the answer.
use mathlib.Core.Path.{◌∙◌}
use Rattle.faults.proofs.Passed.{passed_first, passed_next}
use Rattle.digit_rules.specs.Digits.{digit_check}
use Rattle.digit_check.proofs.digits.Goals as goal

pub returns-in_err-base_rules : goal.returns-in_err-base_rules
unfolding digit_check
returns-in_err-base_rules c = passed_first _ _ c.from_residual.ensures.1 c.in_err-base_rules.ensures

pub returns-in_err-alphabet_rule_by : goal.returns-in_err-alphabet_rule_by
unfolding digit_check
returns-in_err-alphabet_rule_by c =
    passed_first _ _ c.from_residual-in_err-alphabet_rule_by.ensures.1 c.in_err-alphabet_rule_by.ensures ∙ passed_next _ _ c.in_ok-base_rules.ensures

pub returns : goal.returns
unfolding digit_check
returns c = c.input_rule.ensures ∙ passed_next _ _ c.in_ok-alphabet_rule_by.ensures ∙ passed_next _ _ c.in_ok-base_rules.ensures
