use native.Mathlib.Omega.{arith}
use Rattle.octets.proofs.Zeros.{zeros_part}
use Rattle.octets.proofs.halved.Goals as goal

pub loop-end-preserved : goal.loop-end-preserved
loop-end-preserved c = (omega arith, zeros_part c.args.bytes.now _ c.loop-end.end c.highest.result (omega arith) c.loop-end.invariant.0 c.loop-end.invariant.1 c.highest.ensures c.if-highest-eq0.true)
