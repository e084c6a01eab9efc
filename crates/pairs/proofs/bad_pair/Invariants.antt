-- The upper leaves so far pass.
use mathlib.Core.Path.{◌≡◌}
use Rattle.layout_rules.specs.Section.{of_degree}
use Rattle.leaf_rules.specs.Leaf.{code_of}
use Rattle.table_rules.proofs.Bad.{UppersPass}
use Rattle.numeration.specs.PairCount.{pairs_below}
use Rattle.pairs.proofs.bad_pair.Given as goal

abbrev pub invariant-loop-upper : goal.invariant-loop-upper
invariant-loop-upper l =
    UppersPass (of_degree l.degree l.base) (of_degree l.degree l.alphabet) (of_degree l.degree l.inputs) (of_degree l.degree l.leaves) l.words l.upper × (l.pairs ≡ pairs_below (code_of (of_degree l.degree l.leaves) l.words) l.upper)
