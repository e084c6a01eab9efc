-- The leaf stays between the two ends; where they are one apart it is the lower one.
use Rattle.layout_rules.specs.Section.{of_degree}
use Rattle.look_up.specs.Search.{Between}
use Rattle.leaf_rules.specs.Leaf.{code_of}
use Prim.Native.Nat.{◌+◌}
use Rattle.look_up.proofs.search_part.Given as goal

abbrev pub invariant-loop-size : goal.invariant-loop-size
invariant-loop-size l = Between (code_of (of_degree l.degree l.leaves) l.words) l.window l.low (l.low + l.size)

abbrev pub decreases-loop-size : goal.decreases-loop-size
decreases-loop-size l = l.size
