-- A scan over the records names the first that isn't allowed.
use mathlib.Core.Path.{◌≡◌}
use Prim.Native.Nat.{◌-◌}
use Rattle.layout_rules.specs.Section.{of_degree}
use Rattle.lists.specs.Scan.{first_failing}
use Rattle.digit_rules.specs.Digits.{record_allowed}
use Rattle.digit_check.proofs.alphabet_rule.Given as goal

abbrev pub invariant-loop-digit : goal.invariant-loop-digit
invariant-loop-digit l = first_failing (record_allowed (of_degree l.degree l.alphabet)) l.digit (l.count - l.digit) ≡ first_failing (record_allowed (of_degree l.degree l.alphabet)) 0 l.count
