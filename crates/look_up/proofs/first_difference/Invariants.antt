-- A scan: what is left of the places gives the answer of all of them.
use mathlib.Core.Path.{◌≡◌}
use Prim.Native.Nat.{◌+◌, ◌-◌}
use lib.Dec.{eqb}
use lib.ListN.{get_or}
use Rattle.lists.specs.Scan.{first_failing}
use Rattle.look_up.proofs.first_difference.Given as goal

abbrev pub invariant-loop-i : goal.invariant-loop-i
invariant-loop-i l = first_failing (λ i. eqb (get_or l.bytes (l.a + i) 0) (get_or l.other (l.b + i) 0)) l.i (l.n - l.i) ≡ first_failing (λ i. eqb (get_or l.bytes (l.a + i) 0) (get_or l.other (l.b + i) 0)) 0 l.n
