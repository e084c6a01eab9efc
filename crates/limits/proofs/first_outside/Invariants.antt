-- A scan: what is left of the numbers gives the answer of all of them.
use mathlib.Core.Path.{◌≡◌}
use Rattle.layout_rules.specs.Section.{of_degree}
use Rattle.layout_rules.specs.Limit.{number_allowed}
use Rattle.lists.specs.Scan.{first_failing}
use Prim.Native.Nat.{◌-◌}
use Rattle.limits.proofs.first_outside.Given as goal

abbrev pub invariant-loop-m : goal.invariant-loop-m
invariant-loop-m l = first_failing (number_allowed l.size l.limit (of_degree l.degree l.part)) l.m (l.count - l.m) ≡ first_failing (number_allowed l.size l.limit (of_degree l.degree l.part)) 0 l.count
