use Rattle.runs.proofs.Places.{between_all, between_above, between_below, between_found}
use native.Mathlib.Omega.{arith}
use Rattle.runs.proofs.first_above.Goals as goal

pub loop-step-init : goal.loop-step-init
loop-step-init c = (omega arith, c.requires.1, between_all _ _ _ _ c.requires.0)

pub by_halves-requires : goal.by_halves-requires
by_halves-requires c = (omega arith, omega (arith, c.loop-step.invariant.1, c.loop-step-test.true, c.loop-step.invariant.2.in_order))

pub returns-then-bound-keys : goal.returns-then-bound-keys
returns-then-bound-keys c = between_found _ _ _ _ _ _ (between_below _ _ _ _ _ _ c.loop-step.invariant.2 _ (omega arith) (omega (arith, c.loop-step.invariant.0, c.loop-step-test.true, c.loop-step.invariant.2.in_order)) c.if-bound-keys.true) _ c.by_halves.ensures

pub loop-step-preserved : goal.loop-step-preserved
loop-step-preserved c = (omega (arith, c.loop-step.invariant.0), c.loop-step.invariant.1, between_above _ _ _ _ _ _ c.loop-step.invariant.2 _ (omega arith) (omega (arith, c.loop-step.invariant.0, c.loop-step-test.true, c.loop-step.invariant.2.in_order)) (omega (arith, c.if-bound-keys.false)))

pub by_halves-requires-2 : goal.by_halves-requires-2
by_halves-requires-2 c = (c.loop-step.invariant.2.in_order, c.loop-step.invariant.1)

pub returns : goal.returns
returns c = between_found _ _ _ _ _ _ c.loop-step.invariant.2 _ c.by_halves-2.ensures
