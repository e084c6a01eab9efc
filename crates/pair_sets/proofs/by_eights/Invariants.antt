-- The set has the weights of all leaves from the start up to this one, since each eight joined to it has its own.
use Rattle.runs.specs.Words.{Between}
use Prim.Native.Nat.{ℕ, ◌-◌}
use Rattle.pair_sets.specs.Runs.{InRun}
use Rattle.weight_sets.specs.Weights.{Covers}
use mathlib.Core.List.{List}
use Rattle.pair_sets.proofs.by_eights.Given as goal

abbrev pub invariant-loop-leaf : goal.invariant-loop-leaf
invariant-loop-leaf l =
    Between l.keys l.last l.start l.count l.leaf l.count × ((numbers : List ℕ) → Covers numbers l.sets l.count 8 → InRun numbers l.start l.set l.leaf)

abbrev pub decreases-loop-leaf : goal.decreases-loop-leaf
decreases-loop-leaf l = l.count - l.leaf
