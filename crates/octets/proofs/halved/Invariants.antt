-- From the end on all bytes are 0; an upper half whose highest byte is 0 is dropped.
use Prim.Native.Nat.{◌≤◌}
use lib.ListN.{length}
use Rattle.octets.proofs.Zeros.{ZerosFrom}
use Rattle.octets.proofs.halved.Given as goal

abbrev pub invariant-loop-end : goal.invariant-loop-end
invariant-loop-end l = (l.end ≤ length l.bytes) × ZerosFrom l.bytes l.end

abbrev pub decreases-loop-end : goal.decreases-loop-end
decreases-loop-end l = l.end
