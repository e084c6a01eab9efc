-- Laws of counting: a run of numbers that pass, bounds, and that the count of pairs is the length of a list that has each of them once.
use mathlib.Core.Path.{◌≡◌, refl, sym, ap, subst, ◌∙◌}
use mathlib.Core.Bool.{Bool, true, false}
use mathlib.Core.Logic.{◌⊎◌, inl, inr}
use mathlib.Core.List.{List, [], ◌∷◌}
use Prim.Native.Nat.{ℕ, zero, suc, ◌+◌, ◌-◌, ◌*◌, ◌<◌, ◌≤◌}
use native.Mathlib.Omega.{arith}
use native.Mathlib.Nat.{suc-mul, zero-mul}
use native.Mathlib.Numerals.{add-one}
use native.Mathlib.Decide.{dec_lt}
use lib.ListN.{length}
use Rattle.lists.specs.Count.{total, count}
use Rattle.lists.specs.Once.{EachOnce}
use Rattle.lists.proofs.Once.{once_none, once_same, once_more}
use Rattle.lists.proofs.Test.{clash}

pub total_next : (f : ℕ → ℕ) (n : ℕ) → total f (n + 1) ≡ total f n + f n
unfolding total
total_next f n = ap (total f) (add-one n)

-- bounds
pub total_most : (f : ℕ → ℕ) (m n : ℕ) → ((k : ℕ) → k < n → f k ≤ m) → total f n ≤ n * m
unfolding total
total_most f m zero h = omega arith
total_most f m (suc n) h = omega (arith, total_most f m n (λ k l. h k (omega arith)), h n (omega arith), suc-mul n m)

pub total_least : (f : ℕ → ℕ) (m n : ℕ) → ((k : ℕ) → k < n → m ≤ f k) → n * m ≤ total f n
unfolding total
total_least f m zero h = omega (arith, zero-mul m)
total_least f m (suc n) h = omega (arith, total_least f m n (λ k l. h k (omega arith)), h n (omega arith), suc-mul n m)

module _ (test : ℕ → Bool) where
  passes : (n : ℕ) → test n ≡ true → count test (suc n) ≡ suc (count test n)
  unfolding count
  passes n e = rw (e, count)

  fails : (n : ℕ) → test n ≡ false → count test (suc n) ≡ count test n
  unfolding count
  fails n e = rw (e, count)

  -- from k up to n all pass, or none does
  pub count_all : (k n : ℕ) → k ≤ n → ((l : ℕ) → k ≤ l → l < n → test l ≡ true) → count test n ≡ count test k + (n - k)
  count_all k zero h all = let e : k ≡ 0 = omega arith in omega (arith, ap (count test) e)
  count_all k (suc n) h all =
      elim (dec_lt n k) [
        | yes l ↦ let e : k ≡ suc n = omega arith in omega (arith, ap (count test) e)
        | no l ↦ omega (arith, passes n (all n (omega arith) (omega arith)), count_all k n (omega arith) (λ i a b. all i a (omega arith)))
      ]

  pub count_none : (k n : ℕ) → k ≤ n → ((l : ℕ) → k ≤ l → l < n → test l ≡ false) → count test n ≡ count test k
  count_none k zero h all = let e : k ≡ 0 = omega arith in ap (count test) (sym e)
  count_none k (suc n) h all =
      elim (dec_lt n k) [
        | yes l ↦ let e : k ≡ suc n = omega arith in ap (count test) (sym e)
        | no l ↦ fails n (all n (omega arith) (omega arith)) ∙ count_none k n (omega arith) (λ i a b. all i a (omega arith))
      ]

  -- those that pass are a run
  pub count_run : (start end n : ℕ) → start ≤ end → end ≤ n → ((l : ℕ) → start ≤ l → l < end → test l ≡ true) → ((l : ℕ) → l < start → test l ≡ false) → ((l : ℕ) → end ≤ l → l < n → test l ≡ false) → count test n ≡ end - start
  unfolding count
  count_run start end n h k run low high =
      omega (arith, count_none end n k high, count_all start end h run, count_none 0 start (omega arith) (λ l _ u. low l u))

  -- one number more adds one at the most
  step : (n : ℕ) → (count test n ≤ count test (suc n)) × (count test (suc n) ≤ suc (count test n))
  step n = go (test n) refl
    where
      go : (b : Bool) → test n ≡ b → (count test n ≤ count test (suc n)) × (count test (suc n) ≤ suc (count test n))
      go true e = (omega (arith, passes n e), omega (arith, passes n e))
      go false e = (omega (arith, fails n e), omega (arith, fails n e))

  pub count_most : (n : ℕ) → count test n ≤ n
  unfolding count
  count_most zero = omega arith
  count_most (suc n) = omega (arith, (step n).1, count_most n)

  pub count_some : (k n : ℕ) → k < n → test k ≡ true → 1 ≤ count test n
  count_some k zero h e = absurd (omega arith)
  count_some k (suc n) h e =
      elim (dec_lt k n) [
        | yes l ↦ omega (arith, count_some k n l e, (step n).0)
        | no l ↦ let same : k ≡ n = omega arith in omega (arith, passes n (subst (λ (i : ℕ). test i ≡ true) same e))
      ]

module _ (test : ℕ → ℕ → Bool) (m : ℕ) where
  -- pairs that pass: the first number below n and the second below m, or n and the second below k
  Upto : ℕ → ℕ → ℕ × ℕ → Type 0
  Upto n k x = (test x.0 x.1 ≡ true) × (((x.0 < n) × (x.1 < m)) ⊎ ((x.0 ≡ n) × (x.1 < k)))

  Listed : ℕ → ℕ → Type 0
  Listed n k = (s : List (ℕ × ℕ)) × EachOnce (Upto n k) s × (length s ≡ total (λ u. count (test u) m) n + count (test n) k)

  one_more : (n k : ℕ) → Listed n k → Listed n (suc k)
  unfolding Upto Listed
  one_more n k (s, is, long) = go (test n k) refl
    where
      wider : (x : ℕ × ℕ) → Upto n k x → Upto n (suc k) x
      wider x (e, inl a) = (e, inl a)
      wider x (e, inr a) = (e, inr (a.0, omega (arith, a.1)))

      back : (x : ℕ × ℕ) → Upto n (suc k) x → Upto n k x ⊎ (x ≡ (n, k))
      back x (e, inl a) = inl (e, inl a)
      back x (e, inr a) =
          elim (dec_lt x.1 k) [
            | yes l ↦ inl (e, inr (a.0, l))
            | no l ↦ let at : x.1 ≡ k = omega (arith, a.1) in inr (λ i. (a.0 i, at i))
          ]

      new : Upto n k (n, k) → ⊥
      new (e, inl a) = omega (arith, a.0)
      new (e, inr a) = omega (arith, a.1)

      go : (b : Bool) → test n k ≡ b → Listed n (suc k)
      go true e = ((n, k) ∷ s, once_more (Upto n k) (Upto n (suc k)) (n, k) s is new wider (e, inr (refl, omega arith)) back, omega (arith, long, passes (test n) k e))
      go false e =
          (s, once_same (Upto n k) (Upto n (suc k)) s wider (λ x u. elim (back x u) [ inl p ↦ p | inr q ↦ clash (subst (λ (y : ℕ × ℕ). test y.0 y.1 ≡ true) q u.0) e ]) is, omega (arith, long, fails (test n) k e))

  row : (n k : ℕ) → Listed n 0 → Listed n k
  row n zero is = is
  row n (suc k) is = one_more n k (row n k is)

  rows : (n : ℕ) → Listed n 0
  unfolding Upto Listed total count
  rows zero = ([], once_none (Upto 0 0) (λ x u. elim u.1 [ inl a ↦ omega (arith, a.0) | inr a ↦ omega (arith, a.1) ]), refl)
  rows (suc n) =
      let (s, is, long) = row n m (rows n) in
      (s, once_same (Upto n m) (Upto (suc n) 0) s (λ x u. (u.0, inl (elim u.1 [ inl a ↦ (omega (arith, a.0), a.1) | inr a ↦ (omega (arith, a.0), a.1) ]))) there is, omega (arith, long))
    where
      there : (x : ℕ × ℕ) → Upto (suc n) 0 x → Upto n m x
      there x (e, inr a) = absurd (omega (arith, a.1))
      there x (e, inl a) =
          elim (dec_lt x.0 n) [
            | yes l ↦ (e, inl (l, a.1))
            | no l ↦ let at : x.0 ≡ n = omega (arith, a.0) in (e, inr (at, a.1))
          ]

  -- the first numbers below n, the second below m: a list that has each pair that passes once is as long as they are counted
  pub pairs_once : (n : ℕ) → (s : List (ℕ × ℕ)) × EachOnce (λ x. (x.0 < n) × (x.1 < m) × (test x.0 x.1 ≡ true)) s × (length s ≡ total (λ u. count (test u) m) n)
  unfolding Upto Listed count
  pairs_once n =
      let (s, is, long) = rows n in (
        s,
        once_same (Upto n 0) _ s (λ x u. elim u.1 [ inl a ↦ (a.0, a.1, u.0) | inr a ↦ absurd (omega (arith, a.1)) ]) (λ x a. (a.2, inl (a.0, a.1))) is,
        omega (arith, long),
      )
