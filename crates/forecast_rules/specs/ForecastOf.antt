-- The facts of the forecast in plain words (document 02, job 13): "the number of fitting leaf pairs and the bytes that the sum of two rows of n
-- digits will need".
use Rattle.std.specs.Prelude.{◌≡◌, List, ℕ, ◌+◌, ◌<◌, ◌≤◌}
use Rattle.leaf_rules.specs.Leaf.{leaf_count, word_length}
use Rattle.numeration.specs.Pairs.{PairsNumber}
use Rattle.reader_rules.specs.Table.{leaf_part, leaves_in}
use Rattle.forecast_rules.specs.declared.ForecastFacts.{ForecastFacts}

pub record ForecastOf (table : List ℕ) (n : ℕ) (f : ForecastFacts) : Type 0 where
  pub fitting_pairs : PairsNumber (leaves_in table) f.pairs
  -- n + h: n and the length of some leaf's word, and no word is longer
  pub deepest : (k : ℕ) × (k < leaf_count (leaf_part table)) × (n + word_length (leaf_part table) k ≡ f.bytes)
  pub none_deeper : (k : ℕ) → k < leaf_count (leaf_part table) → n + word_length (leaf_part table) k ≤ f.bytes
