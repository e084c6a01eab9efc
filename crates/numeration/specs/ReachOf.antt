-- Pinned by reach_is and one_reach (proofs/Reach.antt): a reader may skip this file. The reach as it is computed, place by place.
use Rattle.std.specs.Prelude.{List, ℕ, zero, suc, ◌+◌, max}
use Rattle.numeration.specs.Code.{Code}
use Rattle.numeration.specs.Reach.{length_at}

module _ {A : Type 0} (c : Code A) where
  -- the length of the word that is looked up at place p − 1; none at place −1
  unfoldable pub length_below : List ℕ → ℕ → ℕ
  length_below row zero = 0
  length_below row (suc p) = length_at c row p

  -- the longest of it and of those at `count` places from p on
  unfoldable pub reach_of : List ℕ → ℕ → ℕ → ℕ
  reach_of row p zero = length_below row p
  reach_of row p (suc count) = max (reach_of row p count) (length_at c row (p + count))
