-- After some leaves the longest is the largest of their lengths.
use mathlib.Core.Path.{◌≡◌}
use Rattle.layout_rules.specs.Section.{of_degree}
use Rattle.numeration.specs.LeafOf.{largest}
use Rattle.leaf_rules.specs.Leaf.{word_length}
use Rattle.leaves.proofs.depth.Given as goal

abbrev pub invariant-loop-leaf : goal.invariant-loop-leaf
invariant-loop-leaf l = l.longest ≡ largest (word_length (of_degree l.degree l.leaves)) l.leaf
