-- The first place above the bound is between two places that come nearer.
use Rattle.runs.specs.Words.{Between}
use Prim.Native.Nat.{◌-◌, ◌≤◌}
use lib.ListN.{length}
use Rattle.runs.proofs.by_halves.Given as goal

abbrev pub invariant-loop-low : goal.invariant-loop-low
invariant-loop-low l = (l.end ≤ length l.keys) × Between l.keys l.bound l.from l.end l.low l.high

abbrev pub decreases-loop-low : goal.decreases-loop-low
decreases-loop-low l = l.high - l.low
