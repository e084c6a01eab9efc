-- Upper leaves whose pairs all pass, and the failing pair where these are all.
use mathlib.Core.Path.{◌≡◌}
use mathlib.Core.List.{List}
use Prim.Native.Nat.{ℕ, ◌≤◌}
use native.Mathlib.Omega.{arith}
use Rattle.ring.specs.declared.Degree.{Degree}
use Rattle.layout_rules.specs.Section.{Section, of_degree}
use Rattle.lists.proofs.Scan.{every_complete}
use Rattle.digit_rules.specs.BaseMatrix.{base_matrix}
use Rattle.numeration.specs.PairTests.{upper_passes}
use Rattle.leaf_rules.specs.Leaf.{leaf_count}
use Rattle.table_rules.specs.Pairs.{bad_pair}
use Rattle.table_rules.proofs.Bad.{UppersPass, pair_none}
use Rattle.pair_sets.specs.Runs.{AllPass}

-- sections of one degree
module _ (d : Degree) (base₀ leaves₀ : List ℕ) (alphabet inputs : Section) (words : List ℕ) (n : ℕ) (all : AllPass (base_matrix (of_degree d base₀)) alphabet inputs (of_degree d leaves₀) words n) where
  abbrev base : Section
  base = of_degree d base₀

  abbrev leaves : Section
  leaves = of_degree d leaves₀

  pub uppers : UppersPass base alphabet inputs leaves words n
  unfolding upper_passes
  uppers u h = every_complete _ 0 (leaf_count leaves) (λ l low high. all u h l (omega arith))

  pub none_fails : leaf_count leaves ≤ n → record { upper = leaf_count leaves; lower = leaf_count leaves } ≡ bad_pair base alphabet inputs leaves words
  none_fails h = pair_none base alphabet inputs leaves words n h uppers
