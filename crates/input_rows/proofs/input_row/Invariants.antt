-- The places passed have their input indexes, and what is known stays true.
use Rattle.layout_rules.specs.Section.{of_degree}
use mathlib.Core.Path.{◌≡◌}
use Prim.Native.Nat.{◌≤◌, ◌-◌}
use Rattle.rows.specs.ChangedBy.{changed_by}
use Rattle.input_rows.specs.Known.{Known}
use Rattle.place_rules.specs.Helpers.{part_row}
use Rattle.place_rules.specs.Place.{input_at}
use Rattle.input_rows.proofs.input_row.Given as goal

abbrev pub invariant-loop-place : goal.invariant-loop-place
invariant-loop-place l = (l.from ≤ l.place) × (l.place ≤ l.end) × (l.row ≡ part_row (input_at l.operation (of_degree l.degree l.alphabet) (of_degree l.degree l.inputs) (changed_by l.change 0 l.first) (changed_by l.change 1 l.second)) l.from l.place) × Known l.operation (of_degree l.degree l.alphabet) (of_degree l.degree l.inputs) l.known

abbrev pub decreases-loop-place : goal.decreases-loop-place
decreases-loop-place l = l.end - l.place
