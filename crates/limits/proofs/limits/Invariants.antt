-- The quick look says that rule 4 is kept; else four sections in turn: the checks that are left give the answer of all of them.
use Prim.Native.Nat.{◌-◌}
use mathlib.Core.Path.{◌≡◌}
use Rattle.faults.specs.Check.{in_turn}
use Rattle.layout_rules.specs.Limit.{limit_check_of}
use Rattle.limits.proofs.limits.Given as goal

abbrev pub invariant-loop-section : goal.invariant-loop-section
invariant-loop-section l = in_turn (limit_check_of l.file) l.section (4 - l.section) ≡ in_turn (limit_check_of l.file) 0 4
