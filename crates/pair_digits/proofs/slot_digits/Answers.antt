use Rattle.ring.proofs.Element.{within_le}
use Rattle.lists.proofs.Test.{clash}
use lib.Dec.{lit≤}
use native.Mathlib.Omega.{arith}
use Prim.Native.Nat.{◌^◌}
use mathlib.Core.Path.{refl}
use Rattle.pair_digits.proofs.slot_digits.Goals as goal

pub returns-then-count-gt255 : goal.returns-then-count-gt255
returns-then-count-gt255 c = λ no. clash no refl

pub loop-digit-init : goal.loop-digit-init
loop-digit-init c = λ k h. absurd (omega arith)

pub record_at-requires : goal.record_at-requires
record_at-requires c = omega (arith, c.record_count-count.ensures)

pub slot_of-slot-requires : goal.slot_of-slot-requires
slot_of-slot-requires c = within_le 32768 (2 ^ 56) _ (lit≤ tt) c.record_at.ensures.within

pub returns-then-slots-slot-lt-EMPTY : goal.returns-then-slots-slot-lt-EMPTY
returns-then-slots-slot-lt-EMPTY c = λ no. clash no refl

pub returns : goal.returns
returns c = λ yes k h. c.loop-digit.invariant k (omega (arith, c.record_count-count.ensures))
