-- The minors of two rows are small.
use mathlib.Core.List.{List}
use Prim.Native.Nat.{ℕ, zero, suc, zero-le}
use lib.IntN.{ℤ}
use Rattle.integers.proofs.Machine.{Term, ◌⊖◌, ◌⊗◌, plain_bound}
use Rattle.ring.specs.Tests.{LimitedBy, row_limits}
use Rattle.ring.proofs.Parts.{limited_entry}
use Rattle.base_tests.specs.Minors.{minors, minor_limits}

pub minors_limited : (x y : List ℤ) → LimitedBy row_limits x → LimitedBy row_limits y → LimitedBy minor_limits (minors x y)
unfolding LimitedBy minors
minors_limited x y h l = limited
  where
    by : ℕ → ℕ → Term
    by p q =
        limited_entry row_limits x h p ⊗ limited_entry row_limits y l q ⊖ limited_entry row_limits x h q ⊗ limited_entry row_limits y l p

    limited : LimitedBy minor_limits (minors x y)
    limited zero = plain_bound (by 0 1)
    limited (suc zero) = plain_bound (by 0 2)
    limited (suc (suc zero)) = plain_bound (by 0 3)
    limited (suc (suc (suc zero))) = plain_bound (by 1 2)
    limited (suc (suc (suc (suc zero)))) = plain_bound (by 1 3)
    limited (suc (suc (suc (suc (suc zero))))) = plain_bound (by 2 3)
    limited (suc (suc (suc (suc (suc (suc k)))))) = zero-le
