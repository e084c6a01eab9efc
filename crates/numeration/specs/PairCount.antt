-- Pinned by pairs_number (proofs/PairCount.antt): a reader may skip this file. The number of fitting pairs, counted upper leaf by upper leaf.
use Rattle.std.specs.Prelude.{ℕ}
use Rattle.lists.specs.Count.{total, count}
use Rattle.numeration.specs.Code.{Code}
use Rattle.numeration.specs.PairTests.{fits}

module _ {A : Type 0} (c : Code A) where
  -- how many lower leaves fit an upper one
  unfoldable pub lower_count : ℕ → ℕ
  lower_count u = count (fits c u) c.leaves

  -- how many pairs fit whose upper leaf is one of the first n
  unfoldable pub pairs_below : ℕ → ℕ
  pairs_below n = total lower_count n

  -- "the number of fitting leaf pairs"
  unfoldable pub pair_count : ℕ
  pair_count = pairs_below c.leaves
