use Rattle.look_up.proofs.Search.{between_next, between_one}
use native.Mathlib.Omega.{arith}
use Rattle.look_up.proofs.search_part.Goals as goal

pub loop-size-preserved : goal.loop-size-preserved
loop-size-preserved c = between_next _ _ _ _ _ c.loop-size.invariant (omega arith) (omega arith) (omega arith) _ c.next_low-low.ensures

pub returns : goal.returns
returns c = between_one _ _ _ _ c.loop-size.invariant (omega arith)
