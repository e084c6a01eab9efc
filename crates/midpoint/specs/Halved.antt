-- Pinned by to_even and one_half (proofs/Halves.antt): a reader may skip this file. The half as a formula, without a case.
use Rattle.std.specs.Prelude.{ℤ, pos, ◌+ℤ◌}
use Rattle.std.specs.Int.Signed.{shr_z}

-- the quarters of z + 1 and z + 2, each rounded down: where z is odd the two are equal, so that their sum is even
unfoldable pub halved : ℤ → ℤ
halved z = shr_z (z +ℤ pos 1) 4 +ℤ shr_z (z +ℤ pos 2) 4
