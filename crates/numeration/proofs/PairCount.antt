-- The number of fitting pairs: it is the length of a list that has each of them once; by runs of lower leaves; and its bounds.
use mathlib.Core.Path.{◌≡◌, sym, ◌∙◌}
use mathlib.Core.Bool.{true, false}
use Prim.Native.Nat.{ℕ, zero, suc, ◌+◌, ◌-◌, ◌*◌, ◌<◌, ◌≤◌}
use native.Mathlib.Omega.{arith}
use native.Mathlib.Nat.{le_antisymm, le_trans, sub-zero, mul-le-mul}
use Rattle.lists.proofs.Count.{total_next, total_most, total_least, count_run, count_most, count_some, pairs_once}
use Rattle.lists.proofs.Once.{once_same, once_long}
use Rattle.lists.proofs.Test.{not_passed}
use Rattle.numeration.specs.Code.{Code, Precedes}
use Rattle.numeration.specs.Prefix.{PrefixCode}
use Rattle.numeration.specs.Pairs.{Fits, FittingPair, PairsNumber}
use Rattle.numeration.specs.PairTests.{fits}
use Rattle.numeration.specs.PairCount.{lower_count, pairs_below, pair_count}
use Rattle.numeration.specs.Runs.{lowest_fit}
use Rattle.numeration.proofs.Agreement.{agree_sound, agree_complete}
use Rattle.numeration.proofs.Runs.{run_found, run_first}

module _ {A : Type 0} (c : Code A) where
  fits_sound : (u l : ℕ) → fits c u l ≡ true → Fits c u l
  unfolding fits
  fits_sound u l e = agree_sound _ _ _ e

  fits_complete : (u l : ℕ) → Fits c u l → fits c u l ≡ true
  unfolding fits
  fits_complete u l h = agree_complete _ _ _ h

  fits_not : (u l : ℕ) → (Fits c u l → ⊥) → fits c u l ≡ false
  fits_not u l apart = not_passed (fits c u l) (λ e. apart (fits_sound u l e))

  -- The count is the number of elements of a list of the fitting pairs that has every fitting pair once.
  pub pairs_number : PairsNumber c (pair_count c)
  unfolding pair_count pairs_below lower_count
  pairs_number =
      let (pairs, is, long) = pairs_once (fits c) c.leaves c.leaves in (
        pairs,
        once_same _ (FittingPair c) pairs (λ x a. (a.0, a.1, fits_sound x.0 x.1 a.2)) (λ x a. (a.0, a.1, fits_complete x.0 x.1 a.2)) is,
        long,
      )

  -- That names one number.
  pub one_number : (m n : ℕ) → PairsNumber c m → PairsNumber c n → m ≡ n
  one_number m n (s, is, long) (t, also, short) = sym long ∙ once_long (FittingPair c) s t is also ∙ short

  pub pairs_next : (n : ℕ) → pairs_below c (n + 1) ≡ pairs_below c n + lower_count c n
  unfolding pairs_below
  pairs_next n = total_next (lower_count c) n

  -- the lower leaves that fit are those of a run
  pub run_count : (u start end : ℕ) → start ≤ end → end ≤ c.leaves → ((l : ℕ) → start ≤ l → l < end → Fits c u l) → ((l : ℕ) → l < c.leaves → Fits c u l → (start ≤ l) × (l < end)) → lower_count c u ≡ end - start
  unfolding lower_count
  run_count u start end h k run within =
      count_run (fits c u) start end c.leaves h k (λ l a b. fits_complete u l (run l a b)) (λ l a. fits_not u l (λ fit. omega (arith, (within l (omega arith) fit).0)))
      (λ l a b. fits_not u l (λ fit. omega (arith, (within l b fit).1)))

  pairs_most : (n : ℕ) → pairs_below c n ≤ n * c.leaves
  unfolding pairs_below lower_count
  pairs_most n = total_most (lower_count c) c.leaves n (λ u h. count_most (fits c u) c.leaves)

  pub pairs_within : (b n : ℕ) → n ≤ b → c.leaves ≤ b → pairs_below c n ≤ b * b
  pairs_within b n h l = le_trans (pairs_most n) (mul-le-mul h l)

  pub pairs_all_within : (b : ℕ) → c.leaves ≤ b → pair_count c ≤ b * b
  unfolding pair_count
  pairs_all_within b l = pairs_within b c.leaves l l

  -- every leaf fits one whose word has one digit
  pub short_count : (u : ℕ) → c.size u ≡ 1 → lower_count c u ≡ c.leaves
  short_count u short =
      run_count u 0 c.leaves (omega arith) (omega arith) (λ l a b i k. absurd (omega (arith, short))) (λ l b fit. (omega arith, b)) ∙ sub-zero c.leaves

  pub pairs_square : ((u : ℕ) → u < c.leaves → c.size u ≡ 1) → pair_count c ≡ c.leaves * c.leaves
  unfolding pair_count pairs_below
  pairs_square short =
      le_antisymm (pairs_most c.leaves) (total_least (lower_count c) c.leaves c.leaves (λ u h. omega (arith, short_count u (short u h))))

  -- each upper leaf has a lower one
  pub pairs_leaves : (m : ℕ) → PrefixCode c m → ((k : ℕ) → suc k < c.leaves → Precedes c k (suc k)) → c.leaves ≤ pair_count c
  unfolding pair_count pairs_below lower_count
  pairs_leaves m p ordered =
      let least = total_least (lower_count c) 1 c.leaves (λ u h. count_some (fits c u) (lowest_fit c u) c.leaves (run_found c m p ordered u h) (fits_complete u (lowest_fit c u) (run_first c m p ordered u h))) in
      omega (arith, least)
