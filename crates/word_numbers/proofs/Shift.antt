-- Bytes as a number, and a number shifted to the high end of 64 bits.
use mathlib.Core.Path.{◌≡◌, refl, sym, ap, ap₂, subst, ◌∙◌}
use mathlib.Core.List.{List, [], ◌∷◌}
use Prim.Native.Nat.{ℕ, zero, suc, ◌+◌, ◌-◌, ◌*◌, ◌/◌, ◌%◌, ◌^◌, ◌<◌, ◌≤◌}
use native.Mathlib.Omega.{arith}
use native.Mathlib.Numerals.{add-one}
use native.Mathlib.Nat.{add-mul, mul_assoc, pow-suc, pow-le-pow_right, one-le-pow, mul-lt-mul_of_pos_right, zero-add, zero-mul, mod-eq_of_lt}
use lib.ListN.{get_or}
use lib.Arith.{digits_lt, digits_mod, digits_div}
use lib.Bits.{bit_and, and_high}
use lib.Pow.{pow-add}
use mir.Syntax.{w64}
use Rattle.std.specs.Int.{from_be_bytes}
use Rattle.radix.specs.Number.{number, aligned}
use Rattle.radix.proofs.Order.{number_lt, number_suc, number_split, agree_number}

-- the bytes from a place on, as a string
abbrev pub from : List ℕ → ℕ → ℕ → ℕ
from bytes at i = get_or bytes (at + i) 0

pub eight_bytes : (w : ℕ → ℕ) → from_be_bytes w64 (w 0 ∷ w 1 ∷ w 2 ∷ w 3 ∷ w 4 ∷ w 5 ∷ w 6 ∷ w 7 ∷ []) ≡ number 256 w 8
unfolding number
eight_bytes w = omega arith

-- one byte more
pub more_bytes : (w : ℕ → ℕ) (i all : ℕ) → all ≡ number 256 w i → all * 256 + w i ≡ number 256 w (i + 1)
more_bytes w i all e = ap (λ (x : ℕ). x * 256 + w i) e ∙ sym (number_suc 256 w i) ∙ ap (number 256 w) (sym (add-one i))

-- a number of fewer than eight bytes leaves room for one more
pub few_small : (i all : ℕ) → i < 8 → all < 256 ^ i → all < 72057594037927936
few_small i all h l =
    let p : 256 ^ i ≤ 256 ^ 7 = pow-le-pow_right (omega arith) {i = i} {j = 7} (omega arith) in
    omega arith

pub more_small : (i all byte : ℕ) → all < 256 ^ i → byte < 256 → all * 256 + byte < 256 ^ (i + 1)
more_small i all byte h l = rw (add-one, pow-suc) (digits_lt h l)

-- a byte is eight bits
pub eight_bits : (k : ℕ) → 2 ^ (8 * k) ≡ 256 ^ k
eight_bits zero = refl
eight_bits (suc k) =
    let e : 8 * suc k ≡ 8 * k + 8 = omega arith in
    ap (λ (x : ℕ). 2 ^ x) e ∙ pow-add 2 (8 * k) 8 ∙ ap (λ (x : ℕ). x * 256) (eight_bits k) ∙ sym (pow-suc 256 k)

-- what stands in front of n bytes is shifted out
pub shifted : (q r n : ℕ) → n ≤ 8 → r < 256 ^ n → ((q * 256 ^ n + r) * 2 ^ (8 * (8 - n))) % 2 ^ 64 ≡ r * 256 ^ (8 - n)
shifted q r n h l =
    let e : n + (8 - n) ≡ 8 = omega arith in
    let whole : 256 ^ n * 256 ^ (8 - n) ≡ 2 ^ 64 = sym (pow-add 256 n (8 - n)) ∙ ap (λ (x : ℕ). 256 ^ x) e in
    let small : r * 256 ^ (8 - n) < 2 ^ 64 = subst (λ (x : ℕ). r * 256 ^ (8 - n) < x) whole (mul-lt-mul_of_pos_right l (one-le-pow (8 - n) 256 (omega arith))) in
    ap (λ (x : ℕ). ((q * 256 ^ n + r) * x) % 2 ^ 64) (eight_bits (8 - n))
    ∙ ap (λ (x : ℕ). x % 2 ^ 64) (add-mul _ _ _ ∙ ap (λ (x : ℕ). x + r * 256 ^ (8 - n)) (mul_assoc q _ _ ∙ ap (λ (x : ℕ). q * x) whole))
    ∙ digits_mod q small

module _ (words : List ℕ) (start n : ℕ) (short : n ≤ 8) (bytes : (i : ℕ) → get_or words i 0 < 256) where
  small : number 256 (from words start) n < 256 ^ n
  small = number_lt 256 (from words start) n (λ i h. bytes (start + i))

  pub few_shifted : (number 256 (from words start) n * 2 ^ (8 * (8 - n))) % 2 ^ 64 ≡ aligned 256 (from words start) n
  unfolding aligned
  few_shifted = ap (λ (x : ℕ). (x * 2 ^ (8 * (8 - n))) % 2 ^ 64) (sym (zero-add _) ∙ ap (λ (x : ℕ). x + number 256 (from words start) n) (sym (zero-mul _))) ∙ shifted 0 _ n short small

  -- the eight bytes that end with the word
  pub eight_shifted : 8 ≤ start + n → (number 256 (from words (start + n - 8)) 8 * 2 ^ (8 * (8 - n))) % 2 ^ 64 ≡ aligned 256 (from words start) n
  unfolding aligned
  eight_shifted h =
      let e : 8 - n + n ≡ 8 = omega arith in
      ap (λ (x : ℕ). (x * 2 ^ (8 * (8 - n))) % 2 ^ 64) (ap (number 256 (from words (start + n - 8))) (sym e) ∙ number_split 256 (from words (start + n - 8)) (8 - n) n ∙ ap (λ (x : ℕ). number 256 (from words (start + n - 8)) (8 - n) * 256 ^ n + x) (agree_number 256 _ (from words start) n (λ i l. ap (λ (k : ℕ). get_or words k 0) (omega arith))))
      ∙ shifted _ _ n short small

  whole : 256 ^ n * 256 ^ (8 - n) ≡ 2 ^ 64
  whole = let e : n + (8 - n) ≡ 8 = omega arith in sym (pow-add 256 n (8 - n)) ∙ ap (λ (x : ℕ). 256 ^ x) e

  pub few_room : (r unit : ℕ) → r ≡ number 256 (λ i. get_or words (start + i) 0) n → unit ≡ 256 ^ (8 - n) → r * unit < 18446744073709551616
  few_room r unit e u =
      rw (e, u) (subst (λ (x : ℕ). number 256 (from words start) n * 256 ^ (8 - n) < x) whole (mul-lt-mul_of_pos_right small (one-le-pow (8 - n) 256 (omega arith))))

  -- what stands behind the word is masked out
  pub eight_masked : (r unit : ℕ) → r ≡ number 256 (λ i. get_or words (start + i) 0) 8 → unit ≡ 256 ^ (8 - n) → bit_and r ((2 ^ 64 - 1) - (unit - 1)) ≡ aligned 256 (λ i. get_or words (start + i) 0) n
  unfolding aligned
  eight_masked r unit e u =
      let some : 0 < 256 ^ (8 - n) = one-le-pow (8 - n) 256 (omega arith) in
      let bits : 8 * n + 8 * (8 - n) ≡ 64 = omega arith in
      let mask : (2 ^ 64 - 1) - (unit - 1) ≡ 2 ^ (8 * n + 8 * (8 - n)) - 2 ^ (8 * (8 - n)) = rw (u, bits, eight_bits (8 - n)) (omega arith) in
      let cut : r ≡ number 256 (from words start) n * 256 ^ (8 - n) + number 256 (λ i. from words start (n + i)) (8 - n) = e ∙ ap (number 256 (from words start)) {x = 8} {y = n + (8 - n)} (omega arith) ∙ number_split 256 (from words start) n (8 - n) in
      let behind : number 256 (λ i. from words start (n + i)) (8 - n) < 256 ^ (8 - n) = number_lt 256 _ (8 - n) (λ i h. bytes (start + (n + i))) in
      ap (bit_and r) mask ∙ and_high r (8 * n) (8 * (8 - n))
      ∙ ap₂ (λ (x y : ℕ). (r / x % y) * x) (eight_bits (8 - n)) (eight_bits n)
      ∙ ap (λ (x : ℕ). (x % 256 ^ n) * 256 ^ (8 - n)) (ap (λ (x : ℕ). x / 256 ^ (8 - n)) cut ∙ digits_div _ behind)
      ∙ ap (λ (x : ℕ). x * 256 ^ (8 - n)) (mod-eq_of_lt small)

pub few_times : (words : List ℕ) (start n r unit : ℕ) → r ≡ number 256 (λ i. get_or words (start + i) 0) n → unit ≡ 256 ^ (8 - n) → r * unit ≡ aligned 256 (λ i. get_or words (start + i) 0) n
unfolding aligned
few_times words start n r unit e u = ap₂ (λ (x y : ℕ). x * y) e u
