-- The numbers of the base are written of a section that rule 4 allows.
use Rattle.std.proofs.Common.{sym, ◌∙◌}
use Rattle.layout_rules.specs.Section.{of_degree}
use Rattle.listing_rules.proofs.Lines.{limited_base_lem}
use Rattle.shown_parts.proofs.base.Goals as goal

pub norm_line-requires : goal.norm_line-requires
norm_line-requires g c = limited_base_lem (of_degree c.args.degree c.args.part.now) (sym c.is_limited.ensures ∙ c.if-is_limited.true)
