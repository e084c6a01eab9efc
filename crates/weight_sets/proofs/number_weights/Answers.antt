use lib.Dec.{lit≤}
use Rattle.ring.proofs.Element.{within_le}
use Prim.Native.Nat.{◌^◌}
use native.Mathlib.Omega.{arith}
use Rattle.weight_sets.proofs.number_weights.Goals as goal

pub loop-leaf-init : goal.loop-leaf-init
loop-leaf-init c = (omega arith, λ k h. absurd (omega arith))

pub slot_of-slot-requires : goal.slot_of-slot-requires
slot_of-slot-requires c = within_le 32768 (2 ^ 56) _ (lit≤ tt) c.weight.ensures.within

pub returns : goal.returns
returns c = (omega arith, λ k there. c.loop-leaf.invariant.1 k (omega (arith, c.leaf_count-leaf-end.ensures)))
