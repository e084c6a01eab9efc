-- The sets passed have the weights of twice as many neighbours; the others are as they were.
use mathlib.Core.Path.{◌≡◌}
use Prim.Native.Nat.{ℕ, ◌+◌, ◌<◌, ◌≤◌}
use lib.ListN.{get_or}
use Rattle.weight_sets.specs.Weights.{Covers}
use Rattle.weight_sets.specs.Bits.{Has}
use mathlib.Core.List.{List}
use Rattle.weight_sets.proofs.double.Given as goal

abbrev pub invariant-loop-leaf : goal.invariant-loop-leaf
invariant-loop-leaf l = ((numbers : List ℕ) → Covers numbers l.initial.sets l.count l.step → (i k : ℕ) → k < l.step + l.step → i + k < l.count → i < l.leaf → Has (get_or l.sets i 0) (get_or numbers (i + k) 0)) × ((i : ℕ) → l.leaf ≤ i → get_or l.sets i 0 ≡ get_or l.initial.sets i 0)
