-- The text of the number that was matched; none for another number.
use mathlib.Core.Path.{sym, ap}
use borrow.Author.Rules.{rules}
use Rattle.text_rules.specs.Bytes.{bytes_of}
use Rattle.why_rules.specs.Rule.{leaf_rule}
use Rattle.why_rules.proofs.Lines.{leaf_none}
use Rattle.why_lines.proofs.leaf_rule.Goals as goal

pub returns-in-9-clause-text : goal.returns-in-9-clause-text
unfolding bytes_of leaf_rule
returns-in-9-clause-text c = sym (ap leaf_rule c.in-9.is)

pub returns-in-10-clause-text : goal.returns-in-10-clause-text
unfolding bytes_of leaf_rule
returns-in-10-clause-text c = sym (ap leaf_rule c.in-10.is)

pub returns-in-11-clause-text : goal.returns-in-11-clause-text
unfolding bytes_of leaf_rule
returns-in-11-clause-text c = sym (ap leaf_rule c.in-11.is)

pub returns-in-12-clause-text : goal.returns-in-12-clause-text
unfolding bytes_of leaf_rule
returns-in-12-clause-text c = sym (ap leaf_rule c.in-12.is)

pub returns-in-13-clause-text : goal.returns-in-13-clause-text
unfolding bytes_of leaf_rule
returns-in-13-clause-text c = sym (ap leaf_rule c.in-13.is)

pub returns-in-14-clause-text : goal.returns-in-14-clause-text
unfolding bytes_of leaf_rule
returns-in-14-clause-text c = sym (ap leaf_rule c.in-14.is)

pub returns-in_default-clause-text : goal.returns-in_default-clause-text
returns-in_default-clause-text c = sym (leaf_none c.args.number (search rules) (search rules) (search rules) (search rules) (search rules) (search rules))
