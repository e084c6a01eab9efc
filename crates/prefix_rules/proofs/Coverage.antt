-- Laws of rule 12 for the functions that run it: each case of the definition, and a loop over the runs.
use mathlib.Core.Path.{◌≡◌, refl, ◌∙◌}
use mathlib.Core.Bool.{Bool, true, false}
use mathlib.Core.List.{List}
use Prim.Native.Nat.{ℕ, zero, suc, ◌+◌, ◌-◌, ◌<◌, ◌≤◌}
use native.Mathlib.Nat.{sub-eq-zero_of_le}
use native.Mathlib.Numerals.{add-one}
use native.Mathlib.Omega.{arith}
use native.Mathlib.Decide.{dec_lt}
use lib.ListN.{get_or}
use lib.Dec.{eqb}
use borrow.Author.Tests.{lt-ltb, le-ltb, le-leb, lt-leb}
use Rattle.layout_rules.specs.Section.{Section}
use Rattle.lists.proofs.Scan.{left, scan_low, scan_high}
use Rattle.lists.proofs.Test.{clash}
use Rattle.numeration.specs.Code.{Code}
use Rattle.leaf_rules.specs.Leaf.{word_start, code_of}
use Rattle.prefix_rules.specs.Coverage.{run_end, every_run, covered}

-- a digit of a word by its place as it was read
pub digit_read : (leaves : Section) (words : List ℕ) (k i start byte : ℕ) → start ≡ word_start leaves k → byte ≡ get_or words (start + i) 0 → byte ≡ (code_of leaves words).digit k i
digit_read leaves words k i start byte starts reads = rw starts at reads

module _ {A : Type 0} (c : Code A) where
  -- a run ends among the leaves that it is cut from
  pub run_low : (p x lo hi : ℕ) → lo ≤ run_end c p x lo hi
  unfolding run_end
  run_low p x lo hi = scan_low _ lo (hi - lo)

  pub run_high : (p x lo hi : ℕ) → lo ≤ hi → run_end c p x lo hi ≤ hi
  unfolding run_end
  run_high p x lo hi h = omega (arith, scan_high (λ k. eqb (c.digit k p) x) lo (hi - lo))

  -- for a loop that counts the digits x up to n, and has judged the run of x
  module _ (test : ℕ → ℕ → Bool) (p x n lo hi end : ℕ) (ends : end ≡ run_end c p x lo hi) (more : x < n) where
    pub runs_on : test lo end ≡ true → every_run c test p x (n - x) lo hi ≡ every_run c test p (x + 1) (n - (x + 1)) end hi
    unfolding every_run
    runs_on e = rw (left x n more, every_run, ← ends, e, ← ends, add-one)

    pub runs_here : test lo end ≡ false → every_run c test p x (n - x) lo hi ≡ false
    unfolding every_run
    runs_here e = rw (left x n more, every_run, ← ends, e)

  pub runs_out : (test : ℕ → ℕ → Bool) (p x n lo hi : ℕ) → n ≤ x → every_run c test p x (n - x) lo hi ≡ true
  unfolding every_run
  runs_out test p x n lo hi h = rw (sub-eq-zero_of_le h)

  module _ (m : ℕ) where
    pub covered_empty : (d p lo hi : ℕ) → hi ≤ lo → covered c m d p lo hi ≡ false
    unfolding covered
    covered_empty zero p lo hi h = rw (le-ltb lo hi h, covered)
    covered_empty (suc d) p lo hi h = rw (le-ltb lo hi h, covered)

    pub covered_leaf : (d p lo hi : ℕ) → lo < hi → c.size lo ≤ p → covered c m d p lo hi ≡ true
    unfolding covered
    covered_leaf zero p lo hi h l = rw (lt-ltb lo hi h, covered, le-leb (c.size lo) p l)
    covered_leaf (suc d) p lo hi h l = rw (lt-ltb lo hi h, covered, le-leb (c.size lo) p l)

    pub covered_last : (d p lo hi : ℕ) → d ≡ 0 → lo < hi → p < c.size lo → covered c m d p lo hi ≡ false
    unfolding covered
    covered_last d p lo hi none h l = rw (none, covered, lt-ltb lo hi h, lt-leb (c.size lo) p l)

    pub covered_runs : (d p lo hi : ℕ) → lo < hi → p < c.size lo → covered c m (suc d) p lo hi ≡ every_run c (covered c m d (suc p)) p 0 m lo hi
    unfolding covered
    covered_runs d p lo hi h l = rw (lt-ltb lo hi h, covered, lt-leb (c.size lo) p l)

    -- the same with so many digits left of eight
    pub covered_deeper : (d lo hi : ℕ) → (d ≡ 0 → ⊥) → d ≤ 8 → lo < hi → 8 - d < c.size lo → covered c m d (8 - d) lo hi ≡ every_run c (covered c m (d - 1) (8 - (d - 1))) (8 - d) 0 m lo hi
    covered_deeper zero lo hi some few h l = absurd (some refl)
    covered_deeper (suc d) lo hi some few h l = covered_runs d (8 - suc d) lo hi h l ∙ rw (deeper, less)
      where
        deeper : suc (8 - suc d) ≡ 8 - d
        deeper = omega arith

        less : suc d - 1 ≡ d
        less = omega arith

    pub covered_some : (d p lo hi : ℕ) → covered c m d p lo hi ≡ true → lo < hi
    covered_some d p lo hi h = elim (dec_lt lo hi) [ yes l ↦ l | no l ↦ clash h (covered_empty d p lo hi (omega arith)) ]
