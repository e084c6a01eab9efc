use mathlib.Core.Path.{ap, refl, sym, ◌∙◌}
use native.Mathlib.Omega.{arith}
use Rattle.layout_rules.specs.Limit.{limit_check}
use Rattle.layout_rules.proofs.Laid.{laid}
use Rattle.layout_rules.proofs.Limit.{handed_on}
use Rattle.faults.specs.Passed.{passed}
use Rattle.faults.proofs.Passed.{ok_of, turn_passed, turn_broken, turns_passed}
use Rattle.limits.proofs.limits.Goals as goal

pub limits_kept-requires : goal.limits_kept-requires
limits_kept-requires c = (c.requires, c.degree_in-degree.ensures)

pub returns-then-limits_kept : goal.returns-then-limits_kept
returns-then-limits_kept c = ok_of (c.limits_kept.ensures c.if-limits_kept.true)

pub loop-section-init : goal.loop-section-init
loop-section-init c = refl

pub section_start-start-requires : goal.section_start-start-requires
section_start-start-requires c = omega (arith, (laid _ c.requires).low)

pub section_end-end-requires : goal.section_end-end-requires
section_end-end-requires c = omega (arith, (laid _ c.requires).low)

pub slice_bounds-limits_in-count : goal.slice_bounds-limits_in-count
slice_bounds-limits_in-count c = omega (arith, c.section_end-end.ensures, c.section_start-start.ensures.start)

pub slice_bounds-limits_in-start : goal.slice_bounds-limits_in-start
slice_bounds-limits_in-start c = omega (arith, c.section_end-end.ensures, c.section_start-start.ensures.start)

pub slice_bounds-limits_in-end : goal.slice_bounds-limits_in-end
slice_bounds-limits_in-end c = omega (arith, c.section_end-end.ensures, ((laid _ c.requires).placed c.loop-section.section (omega arith)).inside)

pub returns-in_err-limits_in : goal.returns-in_err-limits_in
unfolding limit_check
returns-in_err-limits_in c = turn_broken _ _ 4 c.loop-section-test.true c.from_residual.ensures.1 (c.in_err-limits_in.ensures ∙ ap passed (handed_on _ _ _ _ _ c.degree_in-degree.ensures c.section_start-start.ensures.start c.section_end-end.ensures)) ∙ ap passed c.loop-section.invariant

pub loop-section-preserved : goal.loop-section-preserved
loop-section-preserved c = sym (turn_passed _ _ 4 c.loop-section-test.true (c.in_ok-limits_in.ensures ∙ ap passed (handed_on _ _ _ _ _ c.degree_in-degree.ensures c.section_start-start.ensures.start c.section_end-end.ensures))) ∙ c.loop-section.invariant

pub returns : goal.returns
unfolding limit_check
returns c = turns_passed _ _ 4 c.loop-section-test.false ∙ ap passed c.loop-section.invariant
