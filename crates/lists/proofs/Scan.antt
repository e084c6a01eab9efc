-- Laws of `first_failing`: for a loop's invariant (step, hit, end) and for a reader (what holds before the place and at it).
use mathlib.Core.Path.{◌≡◌, refl, sym, ◌∙◌}
use mathlib.Core.Bool.{Bool, true, false}
use Prim.Native.Nat.{ℕ, zero, suc, ◌+◌, ◌-◌, ◌<◌, ◌≤◌}
use native.Mathlib.Decide.{dec_lt}
use native.Mathlib.Omega.{arith}
use native.Mathlib.Nat.{le_antisymm, sub-eq-zero_of_le}
use native.Mathlib.Numerals.{add-one}
use borrow.Author.Tests.{eqb-true, eqb-false, eq-eqb, ne_eqb}
use Rattle.lists.proofs.Test.{clash}
use Rattle.lists.specs.Scan.{first_failing, every}

-- what a count that is not used up leaves
pub left : (i n : ℕ) → i < n → n - i ≡ suc (n - (i + 1))
left i n h = omega arith

-- a place that passes: the scan goes on one place further
pub scan_step : (test : ℕ → Bool) (i n : ℕ) → test i ≡ true → first_failing test i (suc n) ≡ first_failing test (suc i) n
unfolding first_failing
scan_step test i n e = rw (e, first_failing)

-- a place that fails: there it ends
pub scan_hit : (test : ℕ → Bool) (i n : ℕ) → test i ≡ false → first_failing test i (suc n) ≡ i
unfolding first_failing
scan_hit test i n e = rw (e, first_failing)

pub scan_end : (test : ℕ → Bool) (i : ℕ) → first_failing test i 0 ≡ i
unfolding first_failing
scan_end test i = refl

-- by the outcome at the first place
by_outcome : (P : ℕ → Type 0) (test : ℕ → Bool) (i n : ℕ) → (test i ≡ true → P (first_failing test (suc i) n)) → (test i ≡ false → P i) → P (first_failing test i (suc n))
by_outcome P test i n pass fail = go (test i) refl
  where
    go : (b : Bool) → test i ≡ b → P (first_failing test i (suc n))
    go true e = rw (scan_step test i n e) (pass e)
    go false e = rw (scan_hit test i n e) (fail e)

pub scan_low : (test : ℕ → Bool) (i n : ℕ) → i ≤ first_failing test i n
scan_low test i zero = rw scan_end (omega arith)
scan_low test i (suc n) = by_outcome (λ k. i ≤ k) test i n (λ e. omega (arith, scan_low test (suc i) n)) (λ e. omega arith)

pub scan_high : (test : ℕ → Bool) (i n : ℕ) → first_failing test i n ≤ i + n
scan_high test i zero = rw scan_end (omega arith)
scan_high test i (suc n) = by_outcome (λ k. k ≤ i + suc n) test i n (λ e. omega (arith, scan_high test (suc i) n)) (λ e. omega arith)

-- all places before it pass
pub scan_passed : (test : ℕ → Bool) (i n k : ℕ) → i ≤ k → k < first_failing test i n → test k ≡ true
scan_passed test i zero k low = rw scan_end (λ h. absurd (none i k low h))
  where
    none : (i k : ℕ) → i ≤ k → k < i → ⊥
    none i k low h = omega arith
scan_passed test i (suc n) k low =
    by_outcome (λ e. k < e → test k ≡ true) test i n
    (λ pass h. elim (dec_lt i k) [ yes l ↦ scan_passed test (suc i) n k l h | no m ↦ rw (le_antisymm {n = k} {m = i} (omega arith) low) pass ])
    (λ fail h. absurd (none h))
  where
    none : k < i → ⊥
    none h = omega arith

-- the place itself fails, where it is one of the places
pub scan_failed : (test : ℕ → Bool) (i n : ℕ) → first_failing test i n < i + n → test (first_failing test i n) ≡ false
scan_failed test i zero = rw scan_end (λ h. absurd (none i h))
  where
    none : (i : ℕ) → i < i + 0 → ⊥
    none i h = omega arith
scan_failed test i (suc n) =
    by_outcome (λ k. k < i + suc n → test k ≡ false) test i n
    (λ pass h. scan_failed test (suc i) n (omega arith)) (λ fail h. fail)

-- two tests with the same outcomes at the places
pub scan_ext : (test other : ℕ → Bool) (i n : ℕ) → ((k : ℕ) → i ≤ k → k < i + n → test k ≡ other k) → first_failing test i n ≡ first_failing other i n
scan_ext test other i zero same = rw (scan_end test, scan_end other)
scan_ext test other i (suc n) same =
    by_outcome (λ k. k ≡ first_failing other i (suc n)) test i n
    (λ e. scan_ext test other (suc i) n (λ k low high. same k (omega arith) (omega arith)) ∙ sym (scan_step other i n (sym first ∙ e)))
    (λ e. sym (scan_hit other i n (sym first ∙ e)))
  where
    first : test i ≡ other i
    first = same i (omega arith) (omega arith)

-- passing everywhere
pub scan_all : (test : ℕ → Bool) (i n : ℕ) → ((j : ℕ) → i ≤ j → j < i + n → test j ≡ true) → first_failing test i n ≡ i + n
scan_all test i n all =
    elim (dec_lt (first_failing test i n) (i + n)) [
      | yes h ↦ clash (all _ (scan_low test i n) h) (scan_failed test i n h)
      | no h ↦ le_antisymm (scan_high test i n) (omega arith)
    ]

-- `every` is the test of just that
pub every_complete : (test : ℕ → Bool) (i n : ℕ) → ((j : ℕ) → i ≤ j → j < i + n → test j ≡ true) → every test i n ≡ true
unfolding every
every_complete test i n all = eq-eqb _ _ (scan_all test i n all)

pub every_sound : (test : ℕ → Bool) (i n : ℕ) → every test i n ≡ true → (j : ℕ) → i ≤ j → j < i + n → test j ≡ true
unfolding every
every_sound test i n e j low high = scan_passed test i n j low (omega (arith, eqb-true (first_failing test i n) (i + n) e))

-- and it is the only such place
pub scan_unique : (test : ℕ → Bool) (i n k : ℕ) → i ≤ k → k < i + n → ((j : ℕ) → i ≤ j → j < k → test j ≡ true) → test k ≡ false → first_failing test i n ≡ k
scan_unique test i n k low high before fail =
    elim (dec_lt (first_failing test i n) k) [
      | yes h ↦ clash (before _ (scan_low test i n) h) (scan_failed test i n (omega arith))
      | no h ↦ le_antisymm (elim (dec_lt k (first_failing test i n)) [
        | yes l ↦ clash (scan_passed test i n k low l) fail
        | no l ↦ omega arith
      ]) (omega arith)
    ]

-- for a loop that counts i up to n: its turn, its hit and its end
pub scan_on : (test : ℕ → Bool) (i n : ℕ) → i < n → test i ≡ true → first_failing test i (n - i) ≡ first_failing test (i + 1) (n - (i + 1))
scan_on test i n h e = rw (left i n h, scan_step test i (n - (i + 1)) e, add-one i)

pub scan_here : (test : ℕ → Bool) (i n : ℕ) → i < n → test i ≡ false → first_failing test i (n - i) ≡ i
scan_here test i n h e = rw (left i n h) (scan_hit test i (n - (i + 1)) e)

pub scan_out : (test : ℕ → Bool) (i n : ℕ) → n ≤ i → first_failing test i (n - i) ≡ i
scan_out test i n h = rw (sub-eq-zero_of_le h) (scan_end test i)

-- the same for a loop that answers `every`
pub every_here : (test : ℕ → Bool) (i n : ℕ) → first_failing test i (n - i) ≡ first_failing test 0 n → i < n → test i ≡ false → every test 0 n ≡ false
unfolding every
every_here test i n same h fail = ne_eqb (first_failing test 0 n) (0 + n) (λ e. omega (arith, scan_here test i n h fail))

pub every_out : (test : ℕ → Bool) (i n : ℕ) → first_failing test i (n - i) ≡ first_failing test 0 n → n ≤ i → every test 0 n ≡ true
unfolding every
every_out test i n same h = eq-eqb (first_failing test 0 n) (0 + n) (omega (arith, scan_out test i n h, scan_high test 0 n))

-- where not every place passes, one fails
pub every_fails : (test : ℕ → Bool) (i n : ℕ) → every test i n ≡ false → (j : ℕ) × (i ≤ j) × (j < i + n) × (test j ≡ false)
unfolding every
every_fails test i n e = (first_failing test i n, scan_low test i n, below, scan_failed test i n below)
  where
    below : first_failing test i n < i + n
    below = omega (arith, scan_high test i n, eqb-false (first_failing test i n) (i + n) e)

-- by where the first failing place is
pub every_below : (test : ℕ → Bool) (n : ℕ) → first_failing test 0 n < n → every test 0 n ≡ false
unfolding every
every_below test n h = ne_eqb (first_failing test 0 n) (0 + n) (λ e. omega arith)

pub every_reached : (test : ℕ → Bool) (n : ℕ) → n ≤ first_failing test 0 n → every test 0 n ≡ true
unfolding every
every_reached test n h = eq-eqb (first_failing test 0 n) (0 + n) (omega (arith, scan_high test 0 n))
