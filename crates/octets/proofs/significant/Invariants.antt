-- From the place on that the loop has come down to all bytes are 0.
use Prim.Native.Nat.{◌≤◌}
use lib.ListN.{length}
use Rattle.octets.proofs.Zeros.{ZerosFrom}
use Rattle.octets.proofs.significant.Given as goal

abbrev pub invariant-loop-k : goal.invariant-loop-k
invariant-loop-k l = (l.k ≤ length l.bytes) × ZerosFrom l.bytes l.k
