-- For helpers' contracts only: what the search of rule 14 says.
use Rattle.std.specs.Prelude.{◌≡◌, List, ℕ, ◌<◌, Result, MatchResult}
use Rattle.layout_rules.specs.Section.{Section}
use Rattle.numeration.specs.PairCount.{pair_count}
use Rattle.leaf_rules.specs.Leaf.{leaf_count, code_of}
use Rattle.table_rules.specs.declared.Pair.{Pair}
use Rattle.table_rules.specs.Pairs.{bad_pair}

-- the number of fitting pairs where none fails, else the failing pair that the stage names
abbrev pub Searched : Section → Section → Section → Section → List ℕ → Result ℕ Pair → Type 0
Searched base alphabet inputs leaves words r =
    MatchResult r (λ pairs. (pairs ≡ pair_count (code_of leaves words)) × (record { upper = leaf_count leaves; lower = leaf_count leaves } ≡ bad_pair base alphabet inputs leaves words))
    (λ pair. (pair.upper < leaf_count leaves) × (pair ≡ bad_pair base alphabet inputs leaves words))
