use Rattle.runs.proofs.Places.{between_all, between_above, between_below, between_met}
use native.Mathlib.Omega.{arith}
use Rattle.runs.proofs.by_halves.Goals as goal

pub loop-low-init : goal.loop-low-init
loop-low-init c = (c.requires.1, between_all _ _ _ _ c.requires.0)

pub loop-low-preserved-then-bound-keys : goal.loop-low-preserved-then-bound-keys
loop-low-preserved-then-bound-keys c = (c.loop-low.invariant.0, between_below _ _ _ _ _ _ c.loop-low.invariant.1 _ (omega arith) (omega arith) c.if-bound-keys.true)

pub loop-low-preserved : goal.loop-low-preserved
loop-low-preserved c = (c.loop-low.invariant.0, between_above _ _ _ _ _ _ c.loop-low.invariant.1 _ (omega arith) (omega arith) (omega (arith, c.if-bound-keys.false)))

pub returns : goal.returns
returns c = between_met _ _ _ _ _ _ c.loop-low.invariant.1 (omega (arith, c.loop-low-test.false))
