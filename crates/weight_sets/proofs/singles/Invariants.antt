-- The sets passed have their leaf's weight.
use Prim.Native.Nat.{ℕ, ◌<◌}
use lib.ListN.{get_or}
use Rattle.weight_sets.specs.Bits.{Has}
use Rattle.weight_sets.proofs.singles.Given as goal

abbrev pub invariant-loop-leaf : goal.invariant-loop-leaf
invariant-loop-leaf l = (k : ℕ) → k < l.leaf → Has (get_or l.sets k 0) (get_or l.numbers k 0)
