-- Words whose numbers rise are in order; and where they begin as many strings of eight as there are, every string begins with one.
use mathlib.Core.Path.{◌≡◌, refl, ap}
use Prim.Native.Nat.{ℕ, zero, suc, ◌+◌, ◌-◌, ◌*◌, ◌^◌, ◌<◌, ◌≤◌}
use native.Mathlib.Decide.{dec_lt}
use native.Mathlib.Omega.{arith}
use native.Mathlib.Nat.{one-le-pow, zero-mul}
use Rattle.numeration.specs.Code.{Code, Precedes, HasLeaf}
use Rattle.numeration.specs.Prefix.{Below}
use Rattle.radix.specs.Number.{number, aligned}
use Rattle.radix.proofs.Order.{number_lt, number_zero, aligned_high, aligned_lower, lower_aligned, number_begins}
use Rattle.prefix_code.specs.Numbers.{sum, floor_of, strings_of, Numbered}

sum_zero : (f : ℕ → ℕ) → sum f 0 ≡ 0
unfolding sum
sum_zero f = refl

pub sum_suc : (f : ℕ → ℕ) (n : ℕ) → sum f (suc n) ≡ sum f n + f n
unfolding sum
sum_suc f n = refl

-- a number below a sum lies in one of its parts
part_of_lem : (f : ℕ → ℕ) (n x : ℕ) → x < sum f n → (k : ℕ) × (k < n) × (sum f k ≤ x) × (x < sum f k + f k)
unfolding sum
part_of_lem f zero x h = absurd (omega arith)
part_of_lem f (suc n) x h =
    elim (dec_lt x (sum f n)) [
      | yes l ↦ let (k, u, low, high) = part_of_lem f n x l in (k, omega arith, low, high)
      | no l ↦ (n, omega arith, omega arith, h)
    ]

-- some leaf, since there are strings
pub some_leaf : {A : Type 0} (c : Code A) (m : ℕ) → 0 < m → Numbered c m → 0 < c.leaves
some_leaf c m h is =
    elim (dec_lt 0 c.leaves) [
      | yes l ↦ l
      | no l ↦ let e : c.leaves ≡ 0 = omega arith in absurd (omega (arith, is.whole, ap (sum (strings_of c m)) e, sum_zero (strings_of c m), one-le-pow 8 m h))
    ]

module _ {A : Type 0} (c : Code A) (m : ℕ) (some : 0 < m) (bytes : m ≤ 256) (short : (k : ℕ) → k < c.leaves → c.size k ≤ 8) (digits : (k i : ℕ) → k < c.leaves → i < c.size k → c.digit k i < m) (is : Numbered c m) where
  pub in_order : (k : ℕ) → suc k < c.leaves → Precedes c k (suc k)
  unfolding floor_of
  in_order k h =
      aligned_lower 256 (omega arith) (c.digit k) (c.digit (suc k)) (c.size k) (c.size (suc k)) (short k (omega arith)) (short (suc k) h)
      (λ i u. omega (arith, digits k i (omega arith) u)) (λ i u. omega (arith, digits (suc k) i h u)) (is.rising (suc k) h)

  -- the word in base m, with zeros behind it
  first : ℕ → ℕ
  first k = aligned m (c.digit k) (c.size k)

  room : (k : ℕ) → suc k < c.leaves → first k + strings_of c m k ≤ first (suc k)
  unfolding first
  room k h =
      lower_aligned m some (c.digit k) (c.digit (suc k)) (c.size k) (c.size (suc k)) (short k (omega arith)) (short (suc k) h)
      (digits_of k (omega arith)) (digits_of (suc k) h) (in_order k h)
    where
      digits_of : (j : ℕ) → j < c.leaves → (i : ℕ) → i < c.size j → c.digit j i < m
      digits_of j u i l = digits j i u l

  top : (k : ℕ) → k < c.leaves → first k + strings_of c m k ≤ m ^ 8
  unfolding first aligned
  top k h =
      omega (arith, aligned_high m (c.digit k) 0 (c.size k) (omega arith) (short k h) (λ i u. digits k i h u), ap (λ (x : ℕ). x * m ^ 8) (number_zero m (c.digit k)), zero-mul (m ^ 8))

  -- a word's strings come behind those of the words before, and before those of the words behind
  low : (k : ℕ) → k < c.leaves → sum (strings_of c m) k ≤ first k
  unfolding sum
  low zero h = omega arith
  low (suc k) h = omega (arith, low k (omega arith), room k h)

  high : (d k : ℕ) → suc (k + d) ≡ c.leaves → first k + sum (strings_of c m) c.leaves ≤ m ^ 8 + sum (strings_of c m) k
  high zero k e =
      let n : suc k ≡ c.leaves = omega arith in
      omega (arith, top k (omega arith), sum_suc (strings_of c m) k, ap (sum (strings_of c m)) n)
  high (suc d) k e = omega (arith, high d (suc k) (omega arith), room k (omega arith), sum_suc (strings_of c m) k)

  pub has_leaf : (w : ℕ → ℕ) → Below m w → HasLeaf c w
  unfolding first
  has_leaf w below =
      let (k, h, l, u) = part_of_lem (strings_of c m) c.leaves (number m w 8) (omega (arith, number_lt m w 8 (λ i _. below i), is.whole)) in
      let at : first k ≡ sum (strings_of c m) k = omega (arith, low k h, high (c.leaves - suc k) k (omega arith), is.whole) in
      (k, h, number_begins m some (c.digit k) w (c.size k) (short k h) (λ i v. digits k i h v) (λ i _. below i) (omega arith) (omega arith))
