-- The sign, as a test against zero tells it.
use mathlib.Core.Path.{◌≡◌, refl}
use mathlib.Core.Bool.{true, false}
use native.Mathlib.Nat.{not-suc-le-zero}
use lib.Dec.{T}
use lib.Signed.{lt_z, non_neg}
use lib.IntN.{ℤ, pos, negsuc, neg_ℤ, nat_abs, ◌-ℤ◌, +ℤ_idl}
use borrow.Author.Tests.{ltb-true}
use Rattle.lists.proofs.Test.{clash}
use Rattle.integers.proofs.Size.{nat_abs_neg}

pub below_zero : (z : ℤ) → lt_z z (pos 0) ≡ true → T (non_neg (pos 0 -ℤ z))
below_zero (pos n) h = absurd (not-suc-le-zero (ltb-true n 0 h))
below_zero (negsuc n) h = tt

pub not_below_zero : (z : ℤ) → lt_z z (pos 0) ≡ false → T (non_neg z)
not_below_zero (pos n) h = tt
not_below_zero (negsuc n) h = clash refl h

pub nat_abs_negated : (z : ℤ) → nat_abs (pos 0 -ℤ z) ≡ nat_abs z
nat_abs_negated z = rw (+ℤ_idl (neg_ℤ z)) (nat_abs_neg z)
