-- By induction on the digits left: the runs passed are covered, each by the same function one digit deeper.
use mathlib.Core.Path.{◌≡◌}
use Prim.Native.Nat.{◌-◌, ◌≤◌}
use Rattle.layout_rules.specs.Section.{of_degree}
use Rattle.leaf_rules.specs.Leaf.{code_of}
use Rattle.prefix_rules.specs.Coverage as spec
use Rattle.prefix_scan.proofs.+covered.Given as goal

abbrev pub decreases-covered : goal.decreases-covered
decreases-covered l = l.left

abbrev pub invariant-loop-digit : goal.invariant-loop-digit
invariant-loop-digit l = (l.from ≤ l.high) × (spec.every_run (code_of (of_degree l.degree l.leaves) l.words) (spec.covered (code_of (of_degree l.degree l.leaves) l.words) l.inputs (l.left - 1) (8 - (l.left - 1))) (8 - l.left) l.digit (l.inputs - l.digit) l.from l.high ≡ spec.covered (code_of (of_degree l.degree l.leaves) l.words) l.inputs l.left (8 - l.left) l.low l.high)
