-- The word's digits passed are the window's; the first of them is given.
use mathlib.Core.Path.{◌≡◌}
use Rattle.numeration.specs.Conversion.{window}
use lib.ListN.{get_or}
use Prim.Native.Nat.{ℕ, ◌+◌, ◌<◌}
use Rattle.place_weights.proofs.begins_below.Given as goal

abbrev pub invariant-loop-k : goal.invariant-loop-k
invariant-loop-k l = (i : ℕ) → i < l.k → get_or l.words (l.start + i) 0 ≡ window l.row l.place i
