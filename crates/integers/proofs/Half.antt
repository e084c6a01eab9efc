-- Halves rounded down, and what is left: a number is twice its half, or one more.
use mathlib.Core.Path.{◌≡◌, sym, ap, ◌∙◌}
use mathlib.Core.Logic.{◌⊎◌, inl, inr}
use Prim.Native.Nat.{suc, ◌+◌, ◌/◌}
use native.Mathlib.Omega.{arith}
use native.Mathlib.Decide.{ℕ_discrete}
use lib.IntN.{ℤ, pos, negsuc, ◌+ℤ◌, +ℤ_one}

abbrev pub half : ℤ → ℤ
half (pos n) = pos (n / 2)
half (negsuc n) = negsuc (n / 2)

pub twice_half : (z : ℤ) → (z ≡ half z +ℤ half z) ⊎ (z ≡ half z +ℤ half z +ℤ pos 1)
twice_half (pos n) =
    elim (ℕ_discrete n (n / 2 + n / 2)) [
      | yes e ↦ inl (ap pos e)
      | no m ↦ let e : n ≡ n / 2 + n / 2 + 1 = omega arith in inr (ap pos e)
    ]
twice_half (negsuc n) =
    elim (ℕ_discrete n (suc (n / 2 + n / 2))) [
      | yes e ↦ inl (ap negsuc e)
      | no m ↦ let e : n ≡ n / 2 + n / 2 = omega arith in inr (ap negsuc e ∙ sym (+ℤ_one (negsuc (suc (n / 2 + n / 2)))))
    ]
