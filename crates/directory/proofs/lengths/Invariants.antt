-- A scan over the five lengths names the first that isn't allowed.
use Rattle.layout_rules.specs.Length.{section_allowed}
use Rattle.lists.specs.Scan.{first_failing}
use mathlib.Core.Path.{◌≡◌}
use Prim.Native.Nat.{◌-◌}
use Rattle.directory.proofs.lengths.Given as goal

abbrev pub invariant-loop-section : goal.invariant-loop-section
invariant-loop-section l = first_failing (section_allowed l.length-items) l.section (5 - l.section) ≡ first_failing (section_allowed l.length-items) 0 5
