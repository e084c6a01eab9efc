-- Every number below the root's candidate has a square below n.
use Prim.Native.Nat.{ℕ, ◌*◌, ◌-◌, ◌<◌, ◌≤◌}
use Rattle.base_tests.proofs.is_square.Given as goal

abbrev pub invariant-loop-root : goal.invariant-loop-root
invariant-loop-root l = (l.root ≤ l.n) × ((k : ℕ) → k < l.root → k * k < l.n)

abbrev pub decreases-loop-root : goal.decreases-loop-root
decreases-loop-root l = l.n - l.root
