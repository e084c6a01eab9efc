-- The leaves passed keep rule 9.
use mathlib.Core.Path.{◌≡◌}
use Prim.Native.Nat.{◌-◌}
use lib.ListN.{length}
use Rattle.layout_rules.specs.Section.{of_degree}
use Rattle.lists.specs.Scan.{first_failing}
use Rattle.prefix_rules.specs.Check.{leaf_allowed}
use Rattle.leaf_rules.specs.Leaf.{leaf_count}
use Rattle.prefix_scan.proofs.places.Given as goal

abbrev pub invariant-loop-leaf : goal.invariant-loop-leaf
invariant-loop-leaf l = first_failing (leaf_allowed (of_degree l.degree l.leaves) (length l.words)) l.leaf (leaf_count (of_degree l.degree l.leaves) - l.leaf) ≡ first_failing (leaf_allowed (of_degree l.degree l.leaves) (length l.words)) 0 (leaf_count (of_degree l.degree l.leaves))
