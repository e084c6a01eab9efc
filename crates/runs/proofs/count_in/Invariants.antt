-- The pairs of the upper leaves passed are counted.
use Rattle.leaf_rules.specs.Leaf.{code_of}
use Rattle.numeration.specs.PairCount.{pairs_below}
use Rattle.layout_rules.specs.Section.{of_degree}
use Prim.Native.Nat.{◌≤◌}
use mathlib.Core.Path.{◌≡◌}
use Rattle.runs.proofs.count_in.Given as goal

abbrev pub invariant-loop-upper : goal.invariant-loop-upper
invariant-loop-upper l = (l.guess ≤ l.count) × (l.pairs ≡ pairs_below (code_of (of_degree l.degree l.leaves) l.words) l.upper)
