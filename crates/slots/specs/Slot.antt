-- For helpers' contracts only: a slot for each element, of 256. At degree two those of a square of 16 by 16 have different ones, at
-- degree four those of 4 by 4 by 4 by 4.
use Rattle.std.specs.Prelude.{true, false, List, ℕ, ◌%◌, ℤ, pos, nat_abs, ◌+ℤ◌, ◌*ℤ◌}
use Rattle.std.specs.Int.Signed.{lt_z}
use Rattle.ring.specs.Element.{part}

abbrev pub slot_place : List ℤ → ℤ
slot_place x = part x 0 +ℤ pos 16 *ℤ part x 1 +ℤ pos 4 *ℤ part x 2 +ℤ pos 64 *ℤ part x 3 +ℤ pos 32768

-- the slot of an element
unfoldable pub slot_of : List ℤ → ℕ
slot_of x = elim (lt_z (slot_place x) (pos 0)) [ true ↦ 0 | false ↦ nat_abs (slot_place x) % 256 ]
