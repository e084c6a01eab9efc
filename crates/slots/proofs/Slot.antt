-- The slot of an element on either side of zero.
use mathlib.Core.Path.{◌≡◌}
use mathlib.Core.Bool.{true, false}
use mathlib.Core.List.{List}
use Prim.Native.Nat.{◌%◌}
use lib.IntN.{ℤ, pos, nat_abs}
use lib.Signed.{lt_z}
use Rattle.slots.specs.Slot.{slot_place, slot_of}

pub slot_below : (x : List ℤ) → lt_z (slot_place x) (pos 0) ≡ true → 0 ≡ slot_of x
unfolding slot_of
slot_below x h = rw (h, slot_of)

pub slot_above : (x : List ℤ) → lt_z (slot_place x) (pos 0) ≡ false → nat_abs (slot_place x) % 256 ≡ slot_of x
unfolding slot_of
slot_above x h = rw (h, slot_of)
