-- Laws of sets as 64-bit numbers.
use mathlib.Core.Path.{◌≡◌, sym, ap, ◌∙◌}
use mathlib.Core.Logic.{◌⊎◌, inl, inr}
use Prim.Native.Nat.{ℕ, suc, ◌+◌, ◌-◌, ◌/◌, ◌%◌, ◌^◌, ◌<◌, min, max}
use native.Mathlib.Omega.{arith}
use native.Mathlib.Decide.{dec_lt, ℕ_discrete}
use native.Mathlib.Nat.{one-mul, mod-lt, pow-suc, mul-mod_left, div-eq_of_lt}
use lib.Arith.{digits_mod}
use lib.Pow.{pow-add, pow_pos, pow-lt, shl-shr}
use lib.Bits.{bit_and, bit_or, and_step, or_step, and_shr, or_shr}
use Rattle.weight_sets.specs.Bits.{Has}

or_odd : (x y : ℕ) → bit_or x y % 2 ≡ max (x % 2) (y % 2)
or_odd x y = ap (λ (n : ℕ). n % 2) (or_step x y) ∙ digits_mod (bit_or (x / 2) (y / 2)) (omega arith)

and_odd : (x y : ℕ) → bit_and x y % 2 ≡ min (x % 2) (y % 2)
and_odd x y = ap (λ (n : ℕ). n % 2) (and_step x y) ∙ digits_mod (bit_and (x / 2) (y / 2)) (omega arith)

or_bit : (a b j : ℕ) → bit_or a b / 2 ^ j % 2 ≡ max (a / 2 ^ j % 2) (b / 2 ^ j % 2)
or_bit a b j = ap (λ (n : ℕ). n % 2) (or_shr a b j) ∙ or_odd (a / 2 ^ j) (b / 2 ^ j)

and_bit : (a b j : ℕ) → bit_and a b / 2 ^ j % 2 ≡ min (a / 2 ^ j % 2) (b / 2 ^ j % 2)
and_bit a b j = ap (λ (n : ℕ). n % 2) (and_shr a b j) ∙ and_odd (a / 2 ^ j) (b / 2 ^ j)

bit_small : (a j : ℕ) → a / 2 ^ j % 2 < 2
bit_small a j = mod-lt (a / 2 ^ j) (omega arith)

-- a union has what one of its parts has, and nothing else
pub has_left : (a b j : ℕ) → Has a j → Has (bit_or a b) j
unfolding Has
has_left a b j h = omega (arith, or_bit a b j, bit_small b j)

pub has_right : (a b j : ℕ) → Has b j → Has (bit_or a b) j
unfolding Has
has_right a b j h = omega (arith, or_bit a b j, bit_small a j)

pub has_either : (a b j : ℕ) → Has (bit_or a b) j → Has a j ⊎ Has b j
unfolding Has
has_either a b j h =
    elim (ℕ_discrete (a / 2 ^ j % 2) 1) [ yes e ↦ inl e | no e ↦ inr (omega (arith, or_bit a b j, bit_small a j, bit_small b j)) ]

-- a set that is not changed by meeting another is part of it
pub has_part : (a b : ℕ) → bit_and a b ≡ a → (j : ℕ) → Has a j → Has b j
unfolding Has
has_part a b e j h = omega (arith, and_bit a b j, ap (λ (n : ℕ). n / 2 ^ j % 2) e, bit_small b j)

pub has_none : (j : ℕ) → Has 0 j → ⊥
unfolding Has
has_none j h = omega (arith, ap (λ (n : ℕ). n % 2) (div-eq_of_lt (pow_pos j)))

-- the set of one number
pub has_single : (j : ℕ) → Has (2 ^ j) j
unfolding Has
has_single j = ap (λ (n : ℕ). n % 2) (ap (λ (n : ℕ). n / 2 ^ j) (sym (one-mul (2 ^ j))) ∙ shl-shr 1 j)

even : (d i : ℕ) → 2 ^ (suc d + i) / 2 ^ i % 2 ≡ 0
even d i = ap (λ (n : ℕ). n % 2) (ap (λ (n : ℕ). n / 2 ^ i) (pow-add 2 (suc d) i) ∙ shl-shr (2 ^ suc d) i ∙ pow-suc 2 d) ∙ mul-mod_left (2 ^ d) 2

pub single_has : (j i : ℕ) → Has (2 ^ j) i → i ≡ j
unfolding Has
single_has j i h =
    elim (dec_lt i j) [
      | yes l ↦ let e : suc (j - suc i) + i ≡ j = omega arith in absurd (omega (arith, even (j - suc i) i, ap (λ (n : ℕ). 2 ^ n / 2 ^ i % 2) e))
      | no l ↦ elim (dec_lt j i) [
        | yes g ↦ absurd (omega (arith, ap (λ (n : ℕ). n % 2) (div-eq_of_lt (pow-lt g))))
        | no g ↦ omega arith
      ]
    ]
