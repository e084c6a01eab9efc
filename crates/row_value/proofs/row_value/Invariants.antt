-- Before each place the total is within the limit, and the row leads on from it where it leads from zero.
use Rattle.ring.specs.Degree.{part_count}
use Rattle.layout_rules.specs.Section.{of_degree}
use Rattle.row_value_rules.specs.Total.{total_limit, place_digit, worth_from, worth_of}
use Rattle.ring.specs.Tests.{Within}
use lib.ListN.{length}
use Prim.Native.Nat.{◌≤◌}
use mathlib.Core.Path.{◌≡◌}
use Rattle.row_value.proofs.row_value.Given as goal

abbrev pub invariant-loop-place : goal.invariant-loop-place
invariant-loop-place l = (l.place ≤ length l.row) × Within total_limit l.total × (worth_from (part_count l.degree) l.base (place_digit (of_degree l.degree l.alphabet) l.row) l.place l.total ≡ worth_of l.base (of_degree l.degree l.alphabet) l.row)
