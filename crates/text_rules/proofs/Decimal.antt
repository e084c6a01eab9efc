-- Decimal text: one digit, one digit more; its digits, its length, and that it says its number.
use mathlib.Core.Path.{◌≡◌, refl, sym, ap, ◌∙◌}
use mathlib.Core.Logic.{◌≢◌}
use mathlib.Core.List.{List, [], ◌∷◌, ◌++◌}
use mathlib.Core.Bool.{true, false}
use Prim.Native.Nat.{ℕ, zero, suc, ◌+◌, ◌-◌, ◌*◌, ◌/◌, ◌%◌, ◌^◌, ◌<◌, ◌≤◌}
use native.Mathlib.Omega.{arith}
use native.Mathlib.Decide.{dec_lt}
use native.Mathlib.Nat.{not-suc-le-zero, le_refl, pow-suc}
use lib.ListN.{length, get_or, length-append, get_or-append}
use lib.IntN.{ℤ, pos, negsuc, nat_abs}
use lib.Signed.{lt_z}
use borrow.Author.Tests.{lt-ltb, le-ltb, ltb-true}
use Rattle.lists.proofs.Test.{clash}
use Rattle.text_rules.specs.Decimal.{digit_byte, decimal_within, decimal, decimal_z}
use Rattle.text_rules.specs.Read.{read_on}

within_one : (fuel n : ℕ) → n < 10 → decimal_within fuel n ≡ digit_byte n ∷ []
unfolding decimal_within
within_one zero n h = refl
within_one (suc fuel) n h = rw (lt-ltb n 10 h, decimal_within)

within_more : (fuel n : ℕ) → 10 ≤ n → decimal_within (suc fuel) n ≡ decimal_within fuel (n / 10) ++ (digit_byte (n % 10) ∷ [])
unfolding decimal_within
within_more fuel n h = rw (le-ltb n 10 h, decimal_within)

-- fuel beyond the number makes no difference
within_enough : (f g n : ℕ) → n ≤ f → n ≤ g → decimal_within f n ≡ decimal_within g n
within_enough zero g n h k = within_one zero n (omega arith) ∙ sym (within_one g n (omega arith))
within_enough (suc f) zero n h k = within_one (suc f) n (omega arith) ∙ sym (within_one zero n (omega arith))
within_enough (suc f) (suc g) n h k =
    elim (dec_lt n 10) [
      | yes l ↦ within_one (suc f) n l ∙ sym (within_one (suc g) n l)
      | no m ↦ within_more f n (omega arith) ∙ ap (λ (t : List ℕ). t ++ (digit_byte (n % 10) ∷ [])) (within_enough f g (n / 10) (omega arith) (omega arith)) ∙ sym (within_more g n (omega arith))
    ]

pub decimal_one : (n : ℕ) → n < 10 → decimal n ≡ digit_byte n ∷ []
unfolding decimal
decimal_one n h = within_one n n h

pub decimal_more : (n : ℕ) → 10 ≤ n → decimal n ≡ decimal (n / 10) ++ (digit_byte (n % 10) ∷ [])
unfolding decimal
decimal_more zero h = absurd (not-suc-le-zero h)
decimal_more (suc n) h =
    within_more n (suc n) h ∙ ap (λ (t : List ℕ). t ++ (digit_byte (suc n % 10) ∷ [])) (within_enough n (suc n / 10) (suc n / 10) (omega arith) (omega arith))

pub length_more : (n : ℕ) → 10 ≤ n → length (decimal n) ≡ length (decimal (n / 10)) + 1
length_more n h = ap length (decimal_more n h) ∙ length-append (decimal (n / 10)) (digit_byte (n % 10) ∷ [])

-- ---- what the text says

read_snoc : (n : ℕ) (text : List ℕ) (byte : ℕ) → read_on n (text ++ (byte ∷ [])) ≡ 10 * read_on n text + (byte - 48)
unfolding read_on
read_snoc n [] byte = refl
read_snoc n (b ∷ text) byte = read_snoc (10 * n + (b - 48)) text byte

read_one : (n : ℕ) → read_on 0 (digit_byte n ∷ []) ≡ n
unfolding read_on
read_one n = omega arith

reads_within : (fuel n : ℕ) → n ≤ fuel → read_on 0 (decimal_within fuel n) ≡ n
reads_within zero n h = rw (within_one zero n (omega arith)) (read_one n)
reads_within (suc fuel) n h =
    elim (dec_lt n 10) [
      | yes l ↦ rw (within_one (suc fuel) n l) (read_one n)
      | no m ↦ rw (within_more fuel n (omega arith), read_snoc 0 (decimal_within fuel (n / 10)) (digit_byte (n % 10)), reads_within fuel (n / 10) (omega arith)) (omega arith)
    ]

-- a number's text says the number
pub decimal_reads : (n : ℕ) → read_on 0 (decimal n) ≡ n
unfolding decimal
decimal_reads n = reads_within n n (le_refl n)

some_digit : (fuel n : ℕ) → 0 < length (decimal_within fuel n)
unfolding decimal_within
some_digit zero n = omega arith
some_digit (suc fuel) n =
    elim (dec_lt n 10) [
      | yes l ↦ rw (within_one (suc fuel) n l) (omega arith)
      | no m ↦ rw (within_more fuel n (omega arith)) (omega (arith, length-append (decimal_within fuel (n / 10)) (digit_byte (n % 10) ∷ [])))
    ]

first_within : (fuel n : ℕ) → 0 < n → n ≤ fuel → get_or (decimal_within fuel n) 0 0 ≢ 48
first_within zero n h k = absurd (none n h k)
  where
    none : (n : ℕ) → 0 < n → n ≤ 0 → ⊥
    none n h k = omega arith
first_within (suc fuel) n h k =
    elim (dec_lt n 10) [
      | yes l ↦ rw (within_one (suc fuel) n l) (omega arith)
      | no m ↦ rw (within_more fuel n (omega arith), get_or-append (decimal_within fuel (n / 10)) (digit_byte (n % 10) ∷ []) 0 0 (some_digit fuel (n / 10))) (first_within fuel (n / 10) (omega arith) (omega arith))
    ]

-- "no needless zero": only 0 begins with the digit 0
pub no_needless_zero : (n : ℕ) → 0 < n → get_or (decimal n) 0 0 ≢ 48
unfolding decimal
no_needless_zero n h = first_within n n h (le_refl n)

one_digit : (fuel k n : ℕ) → n < 10 → length (decimal_within fuel n) ≤ suc k
one_digit fuel k n h = rw (within_one fuel n h) (omega arith)

short_within : (fuel k n : ℕ) → n ≤ fuel → n < 10 ^ suc k → length (decimal_within fuel n) ≤ suc k
short_within zero k n f h = one_digit zero k n (omega arith)
short_within (suc fuel) zero n f h = one_digit (suc fuel) zero n h
short_within (suc fuel) (suc k) n f h =
    elim (dec_lt n 10) [
      | yes l ↦ one_digit (suc fuel) (suc k) n l
      | no m ↦ rw (within_more fuel n (omega arith)) (omega (arith, length-append (decimal_within fuel (n / 10)) (digit_byte (n % 10) ∷ []), short_within fuel k (n / 10) (omega arith) (omega (arith, pow-suc 10 (suc k)))))
    ]

-- a number below ten to the power k has at most k digits
pub decimal_short : (k n : ℕ) → n < 10 ^ suc k → length (decimal n) ≤ suc k
unfolding decimal
decimal_short k n l = short_within n k n (le_refl n) l

-- ---- whole numbers: the size, behind a minus where it is below zero

pub signed_below : (z : ℤ) → lt_z z (pos 0) ≡ true → decimal_z z ≡ (45 ∷ []) ++ decimal (nat_abs z)
unfolding decimal_z
signed_below (pos n) h = absurd (not-suc-le-zero (ltb-true n 0 h))
signed_below (negsuc n) h = refl

pub signed_above : (z : ℤ) → lt_z z (pos 0) ≡ false → decimal_z z ≡ decimal (nat_abs z)
unfolding decimal_z
signed_above (pos n) h = refl
signed_above (negsuc n) h = clash refl h
