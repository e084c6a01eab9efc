-- The base is inside its limits, so that its product with a weight is too.
use Rattle.std.proofs.Common.{◌^◌, sym, ◌∙◌, subst, lit≤}
use Rattle.ring.specs.Tests.{RowsWithin}
use Rattle.ring.proofs.Element.{within_le}
use Rattle.listing_rules.proofs.Lines.{limited_base_lem}
use Rattle.layout_rules.specs.Section.{of_degree}
use Rattle.digit_rules.proofs.Base.{base_within}
use Rattle.table_why.proofs.sum.Goals as goal

pub base_of-requires : goal.base_of-requires
base_of-requires g c = limited_base_lem (of_degree c.args.degree c.args.base.now) (sym c.is_limited.ensures ∙ c.if-is_limited.true)

pub times_base-product-requires : goal.times_base-product-requires
times_base-product-requires g c =
    let base = of_degree c.args.degree c.args.base.now in
    (subst (RowsWithin (2 ^ 21)) (sym c.base_of.ensures) (base_within base (limited_base_lem base (sym c.is_limited.ensures ∙ c.if-is_limited.true))), within_le 32768 (2 ^ 32) _ (lit≤ tt) c.requires.2)
