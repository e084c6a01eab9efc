-- A scan over the digits that one is taken with: those that are left give the answer of all of them.
use Rattle.layout_rules.specs.Section.{of_degree}
use Rattle.digit_rules.specs.Digits.{pair_listed}
use Rattle.lists.specs.Scan.{first_failing}
use Prim.Native.Nat.{◌-◌}
use mathlib.Core.Path.{◌≡◌}
use Rattle.digit_check.proofs.pairs_listed.Given as goal

abbrev pub invariant-loop-j : goal.invariant-loop-j
invariant-loop-j l = first_failing (pair_listed l.operation (of_degree l.degree l.alphabet) (of_degree l.degree l.inputs) l.i) l.j (l.end - l.j) ≡ first_failing (pair_listed l.operation (of_degree l.degree l.alphabet) (of_degree l.degree l.inputs) l.i) 0 l.end
