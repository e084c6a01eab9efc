-- The reach (document 02, job 7): "the longest word among the leaves they looked up", with no maximum.
use Rattle.std.specs.Prelude.{◌≡◌, List, ℕ, suc, ◌+◌, ◌<◌, ◌≤◌}
use Rattle.numeration.specs.Code.{Code}
use Rattle.numeration.specs.Conversion.{leaf_into}

module _ {A : Type 0} (c : Code A) where
  -- the length of the word that is looked up at place j
  unfoldable pub length_at : List ℕ → ℕ → ℕ
  length_at row j = c.size (leaf_into c row (suc j))

  -- r is the length of a word looked up at one of the places p − 1 to p + count − 1, −1 left out, and none of these is longer
  pub record Reach (row : List ℕ) (p count r : ℕ) : Type 0 where
    pub reached : (j : ℕ) × (p ≤ suc j) × (j < p + count) × (length_at row j ≡ r)
    pub none_longer : (j : ℕ) → p ≤ suc j → j < p + count → length_at row j ≤ r
