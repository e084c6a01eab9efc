-- For helpers' contracts only: the look-up (document 01, "Conversion and addition"): from a window of eight input indexes to the number of the leaf that begins it.
use Rattle.std.specs.Prelude.{◌≡◌, List, ℕ, suc, ◌<◌, ◌≤◌, get_or}
use Rattle.numeration.specs.Code.{Code, Precedes, HasLeaf}
use Rattle.numeration.specs.LeafOf.{leaf_of}

-- a window as a string
abbrev pub digits : List ℕ → ℕ → ℕ
digits window i = get_or window i 0

module _ {A : Type 0} (c : Code A) where
  -- what the look-up needs of a code: words of at most eight digits, each above the previous one
  pub record Sorted : Type 0 where
    pub short : (k : ℕ) → k < c.leaves → c.size k ≤ 8
    pub ordered : (k : ℕ) → suc k < c.leaves → Precedes c k (suc k)

  -- "the one leaf whose word begins": what the look-up's answer r is, where there are leaves, and where one begins the window
  pub record LookedUp (window : List ℕ) (r : ℕ) : Type 0 where
    pub a_leaf : 0 < c.leaves → r < c.leaves
    pub the_leaf : Sorted → HasLeaf c (digits window) → r ≡ leaf_of c (digits window)
