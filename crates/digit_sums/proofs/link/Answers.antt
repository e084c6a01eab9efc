-- Nothing is said of the links, since what they lead to is compared.
use Rattle.ring.proofs.Element.{within_le}
use native.Mathlib.Omega.{arith}
use Prim.Native.Nat.{◌^◌}
use Rattle.digit_sums.proofs.link.Goals as goal

pub slot_of-place-requires : goal.slot_of-place-requires
slot_of-place-requires c = within_le 32768 (2 ^ 56) _ (omega arith) c.record_at.ensures.within
