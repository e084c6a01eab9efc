-- By the degree.
use mathlib.Core.Logic.{inl, inr}
use mathlib.Core.Path.{ap, subst}
use Rattle.ring.specs.declared.Degree.{Degree}
use Rattle.layout_rules.specs.Section.{of_degree}
use Rattle.digit_rules.specs.Digits.{BasePart}
use Rattle.listing_rules.specs.Listing.{norm_line_of}
use Rattle.listing_rules.proofs.Lines.{norm_three, norm_four}
use Rattle.listing.proofs.norm_line.Goals as goal

pub trace_line-requires : goal.trace_line-requires
trace_line-requires c = subst (λ (d : Degree). BasePart (of_degree d c.args.base.now)) c.in-Two.is c.requires

pub returns-in-Two : goal.returns-in-Two
returns-in-Two c = rw (ap (λ (d : Degree). norm_line_of (of_degree d c.args.base.now)) c.in-Two.is) c.trace_line.ensures

pub returns-in-Three : goal.returns-in-Three
returns-in-Three c =
    elim c.in-Three.is [
      | inl e ↦ rw (norm_three (of_degree c.args.degree c.args.base.now) e) c.determinant_line.ensures
      | inr e ↦ rw (norm_four (of_degree c.args.degree c.args.base.now) e) c.determinant_line.ensures
    ]
