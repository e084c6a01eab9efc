-- A scan: the records that are left give the answer of all of them.
use mathlib.Core.Path.{◌≡◌}
use Prim.Native.Nat.{◌-◌}
use Rattle.layout_rules.specs.Section.{of_degree}
use Rattle.lists.specs.Scan.{first_failing}
use Rattle.digit_rules.proofs.Index.{differs}
use Rattle.digits.proofs.find.Given as goal

abbrev pub invariant-loop-k : goal.invariant-loop-k
invariant-loop-k l = first_failing (differs (of_degree l.degree l.part) l.x) l.k (l.n - l.k) ≡ first_failing (differs (of_degree l.degree l.part) l.x) 0 l.n
