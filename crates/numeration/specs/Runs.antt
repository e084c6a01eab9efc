-- For helpers' contracts only: where the lower leaves that fit an upper leaf stand: a run of neighbours in the order of the words.
use Rattle.std.specs.Prelude.{true, false, ℕ, pred, ltb}
use Rattle.numeration.specs.Code.{Code}
use Rattle.numeration.specs.LeafOf.{leaf_of}
use Rattle.numeration.specs.Pairs.{tail}

module _ {A : Type 0} (c : Code A) where
  -- the upper word without its first digit, and zeros behind it
  unfoldable pub tail_then_zeros : ℕ → ℕ → ℕ
  tail_then_zeros u i = elim (ltb i (pred (c.size u))) [ true ↦ tail c u i | false ↦ 0 ]

  -- the lowest lower leaf that fits
  unfoldable pub lowest_fit : ℕ → ℕ
  lowest_fit u = leaf_of c (tail_then_zeros u)
