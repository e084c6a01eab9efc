-- A scan over the alphabet digits: those that are left give the answer of all of them.
use Rattle.layout_rules.specs.Section.{of_degree}
use Rattle.digit_rules.specs.Digits.{pairs_listed}
use Rattle.lists.specs.Scan.{first_failing}
use Prim.Native.Nat.{◌-◌}
use mathlib.Core.Path.{◌≡◌}
use Rattle.digit_check.proofs.first_unlisted.Given as goal

abbrev pub invariant-loop-i : goal.invariant-loop-i
invariant-loop-i l = first_failing (pairs_listed l.operation (of_degree l.degree l.alphabet) (of_degree l.degree l.inputs)) l.i (l.n - l.i) ≡ first_failing (pairs_listed l.operation (of_degree l.degree l.alphabet) (of_degree l.degree l.inputs)) 0 l.n
