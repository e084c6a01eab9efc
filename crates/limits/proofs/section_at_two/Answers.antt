-- The section by its bounds as they were read: no number of it is outside.
use Rattle.layout_rules.proofs.Laid.{laid}
use Rattle.layout_rules.proofs.Limit.{size_held, limit_small, limit_none, handed_on}
use Rattle.ring.specs.declared.Degree.TheVariants.{Two}
use mathlib.Core.Path.{sym, ◌∙◌}
use native.Mathlib.Omega.{arith}
use Rattle.limits.proofs.section_at_two.Goals as goal

pub section_start-start-requires : goal.section_start-start-requires
section_start-start-requires c = omega (arith, (laid _ c.requires.file).low, c.requires.section.0)

pub section_end-end-requires : goal.section_end-end-requires
section_end-end-requires c = omega (arith, (laid _ c.requires.file).low, c.requires.section.0)

pub slice_bounds-none_outside-end : goal.slice_bounds-none_outside-end
slice_bounds-none_outside-end c = omega (arith, c.section_end-end.ensures, ((laid _ c.requires.file).placed c.args.section (omega (arith, c.requires.section.0))).inside)

pub none_outside-requires : goal.none_outside-requires
none_outside-requires c = (size_held Two _ _ c.requires.section.0 c.requires.section.1, limit_small Two _ _ c.requires.section.0 c.requires.section.2)

pub returns : goal.returns
returns c = λ yes told. limit_none _ _ _ _ _ c.requires.section.1 c.requires.section.2 (c.none_outside.ensures yes) ∙ handed_on _ Two _ _ _ (sym told) c.section_start-start.ensures.start c.section_end-end.ensures
