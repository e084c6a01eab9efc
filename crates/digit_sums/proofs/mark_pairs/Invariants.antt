-- The pairs passed are listed, and each mark is at the index where something was found.
use mathlib.Core.Path.{◌≡◌}
use Prim.Native.Nat.{◌-◌}
use Rattle.layout_rules.specs.Section.{of_degree}
use Rattle.lists.specs.Scan.{first_failing}
use Rattle.digit_rules.specs.Digits.{pair_listed}
use Rattle.digit_sums.specs.Marks.{located, Marked}
use Rattle.digit_sums.proofs.mark_pairs.Given as goal

abbrev pub invariant-loop-other : goal.invariant-loop-other
invariant-loop-other l = (first_failing (pair_listed l.operation (of_degree l.degree l.alphabet) (of_degree l.degree l.inputs) l.i) l.other (l.end - l.other) ≡ first_failing (pair_listed l.operation (of_degree l.degree l.alphabet) (of_degree l.degree l.inputs) l.i) 0 l.end) × Marked (of_degree l.degree l.inputs) (located (of_degree l.degree l.inputs) l.heads l.links) l.marks
