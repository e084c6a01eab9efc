-- The tests `agree` and `lower` say what the statements say; and the largest of some numbers.
use mathlib.Core.Path.{◌≡◌, ap}
use mathlib.Core.Bool.{true}
use Prim.Native.Nat.{ℕ, zero, suc, ◌+◌, ◌<◌, ◌≤◌}
use native.Mathlib.Omega.{arith}
use native.Mathlib.Decide.{dec_lt, dec_le}
use native.Mathlib.Nat.{not-suc-le-zero, le_antisymm}
use lib.Dec.{eqb, ltb}
use borrow.Author.Tests.{eqb-true, eq-eqb, ne_eqb, ltb-true, lt-ltb}
use Rattle.lists.specs.Scan.{first_failing, every}
use Rattle.lists.proofs.Scan.{scan_ext, scan_passed, scan_unique, every_sound, every_complete}
use Rattle.lists.proofs.Test.{both}
use Rattle.numeration.specs.Code.{Agree, Lower}
use Rattle.numeration.specs.LeafOf.{agree, largest}
use Rattle.numeration.specs.Prefix.{lower}

pub agree_sound : (v w : ℕ → ℕ) (n : ℕ) → agree v w n ≡ true → Agree v w n
unfolding agree
agree_sound v w n e i h = eqb-true _ _ (every_sound (λ i. eqb (v i) (w i)) 0 n e i (omega arith) (omega arith))

pub agree_complete : (v w : ℕ → ℕ) (n : ℕ) → Agree v w n → agree v w n ≡ true
unfolding agree
agree_complete v w n h = every_complete _ 0 n (λ i low high. eq-eqb _ _ (h i (omega arith)))

-- the test reads the first n places only
pub agree_ext : (v w x : ℕ → ℕ) (n : ℕ) → Agree w x n → agree v w n ≡ agree v x n
unfolding agree every
agree_ext v w x n h = ap (λ (k : ℕ). eqb k (0 + n)) (scan_ext _ _ 0 n (λ i low high. ap (eqb (v i)) (h i (omega arith))))

-- the test `lower` says what the statement says
pub lower_sound : (v w : ℕ → ℕ) (n : ℕ) → lower v w n ≡ true → Lower v w n
unfolding lower
lower_sound v w n h =
    let d : ℕ = first_failing (λ i. eqb (v i) (w i)) 0 n in
    let (e, f) = both (ltb d n) (ltb (v d) (w d)) h in
    (d, ltb-true _ _ e, (λ i l. eqb-true _ _ (scan_passed _ 0 _ i (omega arith) l)), ltb-true _ _ f)

pub lower_complete : (v w : ℕ → ℕ) (n : ℕ) → Lower v w n → lower v w n ≡ true
unfolding lower
lower_complete v w n (i, h, a, d) =
    let first : first_failing (λ i. eqb (v i) (w i)) 0 n ≡ i = scan_unique _ 0 n i (omega arith) (omega arith) (λ j low lt. eq-eqb _ _ (a j lt)) (ne_eqb _ _ (λ e. none e)) in
    rw (lt-ltb (first_failing (λ i. eqb (v i) (w i)) 0 n) n (rw first h)) (rw first (lt-ltb _ _ d))
  where
    none : v i ≡ w i → ⊥
    none e = omega arith

pub largest_bound : (f : ℕ → ℕ) (n k : ℕ) → k < n → f k ≤ largest f n
unfolding largest
largest_bound f zero k h = absurd (not-suc-le-zero h)
largest_bound f (suc n) k h =
    elim (dec_lt k n) [
      | yes l ↦ omega (arith, largest_bound f n k l)
      | no l ↦ omega (arith, ap f (le_antisymm {n = k} {m = n} (omega arith) (omega arith)))
    ]

pub largest_reached : (f : ℕ → ℕ) (n : ℕ) → 0 < n → (k : ℕ) × (k < n) × (f k ≡ largest f n)
unfolding largest
largest_reached f zero h = absurd (not-suc-le-zero h)
largest_reached f (suc zero) h = (0, omega arith, omega arith)
largest_reached f (suc (suc n)) h =
    let (k, hk, e) = largest_reached f (suc n) (omega arith) in
    elim (dec_le (largest f (suc n)) (f (suc n))) [ yes l ↦ (suc n, omega arith, omega arith) | no l ↦ (k, omega arith, omega arith) ]
