-- All upper leaves passed so far pass: the weights of all that fit one are among those that give digits with it.
use Rattle.layout_rules.specs.Section.{of_degree}
use Rattle.leaf_rules.specs.Leaf.{code_of}
use Rattle.numeration.specs.PairCount.{pairs_below}
use Rattle.pair_sets.specs.Runs.{AllPass}
use Rattle.weight_sets.specs.Weights.{Judged}
use mathlib.Core.Path.{◌≡◌}
use Prim.Native.Nat.{◌≤◌}
use Rattle.pair_sets.proofs.all_in.Given as goal

abbrev pub invariant-loop-upper : goal.invariant-loop-upper
invariant-loop-upper l =
    (l.guess ≤ l.leaf_count) × (l.pairs ≡ pairs_below (code_of (of_degree l.degree l.leaves) l.words) l.upper) × AllPass l.base (of_degree l.degree l.alphabet) (of_degree l.degree l.inputs) (of_degree l.degree l.leaves) l.words l.upper × Judged l.base (of_degree l.degree l.alphabet) (of_degree l.degree l.inputs) (of_degree l.degree l.leaves) l.first l.made l.good
