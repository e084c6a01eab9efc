-- The set has the weights of all leaves from the start up to this one, and the run ends at the first word above the last one.
use Rattle.runs.specs.Words.{Between}
use Prim.Native.Nat.{ℕ}
use Rattle.pair_sets.specs.Runs.{InRun}
use Rattle.pair_sets.proofs.one_by_one.Given as goal

abbrev pub invariant-loop-leaf : goal.invariant-loop-leaf
invariant-loop-leaf l =
    ((start : ℕ) → Between l.keys l.last start l.count l.initial.leaf l.count → Between l.keys l.last start l.count l.leaf l.count) × ((start : ℕ) → InRun l.numbers start l.initial.set l.initial.leaf → InRun l.numbers start l.set l.leaf)
