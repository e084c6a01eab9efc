-- Up to the last place looked at all are at most the bound; the step that finds one above it leaves few places to search.
use Rattle.runs.specs.Words.{Between}
use Prim.Native.Nat.{◌-◌, ◌≤◌}
use lib.ListN.{length}
use Rattle.runs.proofs.first_above.Given as goal

abbrev pub invariant-loop-step : goal.invariant-loop-step
invariant-loop-step l = (1 ≤ l.step) × (l.end ≤ length l.keys) × Between l.keys l.bound l.from l.end l.low l.end

abbrev pub decreases-loop-step : goal.decreases-loop-step
decreases-loop-step l = l.end - l.low
