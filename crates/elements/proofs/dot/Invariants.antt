-- The products of the first entries, each at most 2 ^ 53 in size.
use mathlib.Core.Path.{◌≡◌}
use Prim.Native.Nat.{◌*◌, ◌^◌, ◌≤◌}
use lib.ListN.{take}
use lib.IntN.{nat_abs}
use Rattle.ring.specs.Matrix.{dot}
use Rattle.elements.proofs.dot.Given as goal

abbrev pub invariant-loop-k : goal.invariant-loop-k
invariant-loop-k g l = (l.all ≡ dot (take l.k l.row) l.x) × (nat_abs l.all ≤ l.k * 2 ^ 53)
