-- By the two lengths that tell another degree than two.
use borrow.Author.Rules.{rules}
use mathlib.Core.Path.{sym, ap, ◌∙◌}
use Rattle.ring.specs.declared.Degree.TheVariants.{Three, Four}
use Rattle.layout_rules.specs.Section.{degree_of}
use Rattle.layout_rules.proofs.Length.{degree_told, degree_other}
use Rattle.layout.proofs.degree_of.Goals as goal

pub returns-in-12 : goal.returns-in-12
returns-in-12 c = sym (ap degree_of c.in-12.is ∙ degree_told Three)

pub returns-in-16 : goal.returns-in-16
returns-in-16 c = sym (ap degree_of c.in-16.is ∙ degree_told Four)

pub returns-in_default : goal.returns-in_default
returns-in_default c = sym (degree_other c.args.length (search rules) (search rules))
