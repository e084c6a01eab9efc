-- The leaves passed are below the next one.
use mathlib.Core.Path.{◌≡◌}
use Prim.Native.Nat.{◌-◌}
use Rattle.layout_rules.specs.Section.{of_degree}
use Rattle.lists.specs.Scan.{first_failing}
use Rattle.prefix_rules.specs.Check.{order_allowed}
use Rattle.leaf_rules.specs.Leaf.{leaf_count}
use Rattle.prefix_scan.proofs.order.Given as goal

abbrev pub invariant-loop-leaf : goal.invariant-loop-leaf
invariant-loop-leaf l = first_failing (order_allowed (of_degree l.degree l.leaves) l.words) (l.leaf - 1) (leaf_count (of_degree l.degree l.leaves) - 1 - (l.leaf - 1)) ≡ first_failing (order_allowed (of_degree l.degree l.leaves) l.words) 0 (leaf_count (of_degree l.degree l.leaves) - 1)
