-- The numbers passed are in the set.
use Prim.Native.Nat.{ℕ, ◌<◌}
use Rattle.weight_sets.specs.Bits.{Has}
use Rattle.weight_sets.proofs.all_weights.Given as goal

abbrev pub invariant-loop-number : goal.invariant-loop-number
invariant-loop-number l = (j : ℕ) → j < l.number → Has l.set j
