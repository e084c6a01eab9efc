-- All pairs of the digits passed are listed.
use mathlib.Core.Path.{◌≡◌}
use Prim.Native.Nat.{◌-◌}
use Rattle.layout_rules.specs.Section.{of_degree}
use Rattle.lists.specs.Scan.{first_failing}
use Rattle.digit_rules.specs.Digits.{pairs_listed}
use Rattle.digit_sums.specs.Marks.{located, Marked}
use Rattle.digit_sums.proofs.mark_all.Given as goal

abbrev pub invariant-loop-i : goal.invariant-loop-i
invariant-loop-i l = (first_failing (pairs_listed l.operation (of_degree l.degree l.alphabet) (of_degree l.degree l.inputs)) l.i (l.n - l.i) ≡ first_failing (pairs_listed l.operation (of_degree l.degree l.alphabet) (of_degree l.degree l.inputs)) 0 l.n) × Marked (of_degree l.degree l.inputs) (located (of_degree l.degree l.inputs) l.heads l.links) l.marks
