-- The text of the number that was matched; none for another number.
use mathlib.Core.Path.{sym, ap}
use borrow.Author.Rules.{rules}
use Rattle.text_rules.specs.Bytes.{bytes_of}
use Rattle.why_rules.specs.Rule.{file_rule}
use Rattle.why_rules.proofs.Lines.{file_none}
use Rattle.why_lines.proofs.file_rule.Goals as goal

pub returns-in-0-clause-text : goal.returns-in-0-clause-text
unfolding bytes_of file_rule
returns-in-0-clause-text c = sym (ap file_rule c.in-0.is)

pub returns-in-1-clause-text : goal.returns-in-1-clause-text
unfolding bytes_of file_rule
returns-in-1-clause-text c = sym (ap file_rule c.in-1.is)

pub returns-in-2-clause-text : goal.returns-in-2-clause-text
unfolding bytes_of file_rule
returns-in-2-clause-text c = sym (ap file_rule c.in-2.is)

pub returns-in-3-clause-text : goal.returns-in-3-clause-text
unfolding bytes_of file_rule
returns-in-3-clause-text c = sym (ap file_rule c.in-3.is)

pub returns-in-4-clause-text : goal.returns-in-4-clause-text
unfolding bytes_of file_rule
returns-in-4-clause-text c = sym (ap file_rule c.in-4.is)

pub returns-in_default-clause-text : goal.returns-in_default-clause-text
returns-in_default-clause-text c = sym (file_none c.args.number (search rules) (search rules) (search rules) (search rules) (search rules))
