-- What is collected so far is at least each raised number passed, so below 65,536 all of them are.
use Rattle.layout_rules.specs.Section.{of_degree}
use Rattle.layout_rules.proofs.Limit.{AllowedBefore}
use Prim.Native.Nat.{◌<◌}
use Rattle.limits.proofs.none_outside.Given as goal

abbrev pub invariant-loop-k : goal.invariant-loop-k
invariant-loop-k l = l.most < 65536 → AllowedBefore l.size l.limit (of_degree l.degree l.part) l.k
