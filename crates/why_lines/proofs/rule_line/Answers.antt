-- By which of the three has the number.
use mathlib.Core.Path.{◌∙◌, sym}
use Rattle.why_rules.proofs.Lines.{rule_file, rule_digit, rule_leaf}
use Rattle.why_lines.proofs.rule_line.Goals as goal

pub returns-then-number-lt5-clause-text : goal.returns-then-number-lt5-clause-text
returns-then-number-lt5-clause-text c = c.file_rule.ensures.text ∙ sym (rule_file c.args.number c.if-number-lt5.true)

pub returns-then-number-lt9-clause-text : goal.returns-then-number-lt9-clause-text
returns-then-number-lt9-clause-text c = c.digit_rule.ensures.text ∙ sym (rule_digit c.args.number c.if-number-lt5.false c.if-number-lt9.true)

pub returns-else-number-lt9-clause-text : goal.returns-else-number-lt9-clause-text
returns-else-number-lt9-clause-text c = c.leaf_rule.ensures.text ∙ sym (rule_leaf c.args.number c.if-number-lt5.false c.if-number-lt9.false)
