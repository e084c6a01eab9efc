-- For helpers' contracts only: how far the binary search of the look-up has come.
use Rattle.std.specs.Prelude.{Bool, true, false, List, ℕ, ◌+◌, ◌<◌, ◌≤◌, min}
use Rattle.numeration.specs.Code.{Code, Begins}
use Rattle.numeration.specs.Prefix.{lower}
use Rattle.leaf_rules.specs.Window.{digits, Sorted}

module _ {A : Type 0} (c : Code A) where
  -- the word of leaf k is above the window, as far as both reach
  unfoldable pub above : List ℕ → ℕ → Bool
  above window k = lower (digits window) (c.digit k) (min (c.size k) 8)

  -- where a binary search goes on that stands at `low`, by the leaf at a distance
  unfoldable pub next_low : List ℕ → ℕ → ℕ → ℕ
  next_low window low half = elim (above window (low + half)) [ true ↦ low | false ↦ low + half ]

  -- where the look-up's search stands: the leaf that begins the window, if there is one, is among those from low up to high
  pub record Between (window : List ℕ) (low high : ℕ) : Type 0 where
    pub rising : low ≤ high
    pub inside : high ≤ c.leaves
    pub some : 0 < c.leaves → low < high
    pub holds : Sorted c → (k : ℕ) → k < c.leaves → Begins c k (digits window) → (low ≤ k) × (k < high)
