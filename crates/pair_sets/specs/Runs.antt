-- For helpers' contracts only: the weights of a run of lower leaves, and what the quick look of rule 14 says.
use Rattle.std.specs.Prelude.{◌≡◌, true, List, ℕ, ◌<◌, ◌≤◌, ℤ, get_or}
use Rattle.ring.specs.Degree.{part_count}
use Rattle.digit_rules.specs.Record.{record_at}
use Rattle.layout_rules.specs.Section.{Section}
use Rattle.numeration.specs.Elements.{elements}
use Rattle.numeration.specs.PairTests.{pair_passes}
use Rattle.numeration.specs.PairCount.{pairs_below}
use Rattle.leaf_rules.specs.Leaf.{leaf_count, code_of}
use Rattle.table_rules.specs.Pairs.{in_alphabet}
use Rattle.weight_sets.specs.Bits.{Has}
use Rattle.pair_sets.specs.declared.PassedLeaves.{PassedLeaves}

-- a set has the weight numbers of the leaves from a first one up to an end
abbrev pub InRun : List ℕ → ℕ → ℕ → ℕ → Type 0
InRun numbers start set end = (k : ℕ) → start ≤ k → k < end → Has set (get_or numbers k 0)

-- the first n upper leaves pass rule 14 with every lower leaf
abbrev pub AllPass : List (List ℤ) → Section → Section → Section → List ℕ → ℕ → Type 0
AllPass matrix alphabet inputs leaves words n =
    (u : ℕ) → u < n → (l : ℕ) → l < leaf_count leaves → pair_passes (elements (part_count leaves.degree) matrix) (record_at inputs) (code_of leaves words) (in_alphabet alphabet) u l ≡ true

-- what the quick look says: so many upper leaves, of those there are, pass, and so many pairs they have
pub record Judgement (matrix : List (List ℤ)) (alphabet inputs leaves : Section) (words : List ℕ) (r : PassedLeaves) : Type 0 where
  pub some_leaves : r.uppers ≤ leaf_count leaves
  pub all_pass : AllPass matrix alphabet inputs leaves words r.uppers
  pub pairs_are : r.pairs ≡ pairs_below (code_of leaves words) r.uppers
