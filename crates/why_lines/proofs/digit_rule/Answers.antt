-- The text of the number that was matched; none for another number.
use mathlib.Core.Path.{sym, ap}
use borrow.Author.Rules.{rules}
use Rattle.text_rules.specs.Bytes.{bytes_of}
use Rattle.why_rules.specs.Rule.{digit_rule}
use Rattle.why_rules.proofs.Lines.{digit_none}
use Rattle.why_lines.proofs.digit_rule.Goals as goal

pub returns-in-5-clause-text : goal.returns-in-5-clause-text
unfolding bytes_of digit_rule
returns-in-5-clause-text c = sym (ap digit_rule c.in-5.is)

pub returns-in-6-clause-text : goal.returns-in-6-clause-text
unfolding bytes_of digit_rule
returns-in-6-clause-text c = sym (ap digit_rule c.in-6.is)

pub returns-in-7-clause-text : goal.returns-in-7-clause-text
unfolding bytes_of digit_rule
returns-in-7-clause-text c = sym (ap digit_rule c.in-7.is)

pub returns-in-8-clause-text : goal.returns-in-8-clause-text
unfolding bytes_of digit_rule
returns-in-8-clause-text c = sym (ap digit_rule c.in-8.is)

pub returns-in_default-clause-text : goal.returns-in_default-clause-text
returns-in_default-clause-text c = sym (digit_none c.args.number (search rules) (search rules) (search rules) (search rules))
