-- Laws of `failing`: the start, a step, the end, parts, and when two counts are equal.
use mathlib.Core.Path.{◌≡◌, refl, sym, ap, ap₂, ◌∙◌}
use mathlib.Core.Bool.{Bool, true, false}
use Prim.Native.Nat.{ℕ, zero, suc, ◌+◌, ◌-◌, ◌<◌, ◌≤◌}
use native.Mathlib.Omega.{arith}
use native.Mathlib.Nat.{add-zero, zero-add, suc-add, add-suc}
use native.Mathlib.Numerals.{add-one}
use Rattle.lists.proofs.Scan.{left}
use Rattle.edit_rules.specs.Count.{tally, failing}

tally_add : (b : Bool) (n m : ℕ) → tally b (n + m) ≡ tally b n + m
unfolding tally
tally_add true n m = refl
tally_add false n m = sym (suc-add n m)

module _ (test : ℕ → Bool) where
  pub failing_pass : (i n : ℕ) → test i ≡ true → failing test i (suc n) ≡ failing test (suc i) n
  unfolding failing tally
  failing_pass i n t = ap (λ (b : Bool). tally b (failing test (suc i) n)) t

  pub failing_fail : (i n : ℕ) → test i ≡ false → failing test i (suc n) ≡ suc (failing test (suc i) n)
  unfolding failing tally
  failing_fail i n t = ap (λ (b : Bool). tally b (failing test (suc i) n)) t

  pub failing_none_left : (i : ℕ) → failing test i 0 ≡ 0
  unfolding failing
  failing_none_left i = refl

  -- in a loop that has come to place i of n
  pub failing_on : (i n : ℕ) → i < n → test i ≡ true → failing test i (n - i) ≡ failing test (i + 1) (n - (i + 1))
  failing_on i n h t = ap (failing test i) (left i n h) ∙ failing_pass i _ t ∙ ap (λ (k : ℕ). failing test k (n - (i + 1))) (sym (add-one i))

  pub failing_here : (i n : ℕ) → i < n → test i ≡ false → failing test i (n - i) ≡ suc (failing test (i + 1) (n - (i + 1)))
  failing_here i n h t = ap (failing test i) (left i n h) ∙ failing_fail i _ t ∙ ap (λ (k : ℕ). suc (failing test k (n - (i + 1)))) (sym (add-one i))

  pub failing_out : (i n : ℕ) → n ≤ i → failing test i (n - i) ≡ 0
  failing_out i n h = let z : n - i ≡ 0 = omega arith in ap (failing test i) z ∙ failing_none_left i

  -- none fails
  pub failing_zero : (i n : ℕ) → ((k : ℕ) → i ≤ k → k < i + n → test k ≡ true) → failing test i n ≡ 0
  failing_zero i zero all = failing_none_left i
  failing_zero i (suc n) all = failing_pass i n (all i (omega arith) (omega arith)) ∙ failing_zero (suc i) n (λ k l h. all k (omega arith) (omega arith))

  -- n places, and then m more
  pub failing_add : (i n m : ℕ) → failing test i (n + m) ≡ failing test i n + failing test (i + n) m
  unfolding failing
  failing_add i zero m = rw (zero-add, add-zero, zero-add)
  failing_add i (suc n) m =
      ap (failing test i) (suc-add n m) ∙ ap (tally (test i)) (failing_add (suc i) n m ∙ ap (λ (k : ℕ). failing test (suc i) n + failing test k m) (simp (suc-add, add-suc))) ∙ tally_add (test i) (failing test (suc i) n) (failing test (i + suc n) m)

-- tests that agree, each at its own places
pub failing_ext : (test other : ℕ → Bool) (i j n : ℕ) → ((k : ℕ) → k < n → test (i + k) ≡ other (j + k)) → failing test i n ≡ failing other j n
unfolding failing
failing_ext test other i j zero same = refl
failing_ext test other i j (suc n) same =
    ap₂ tally (rw (add-zero, add-zero) at (same 0 (omega arith))) (failing_ext test other (suc i) (suc j) n (λ k h. simp (suc-add, ← add-suc) (same (suc k) (omega arith))))
