use Rattle.word_numbers.proofs.Filled.{filled_next, filled_small}
use Prim.Native.Nat.{◌-◌}
use native.Mathlib.Omega.{arith}
use Rattle.word_numbers.proofs.powers.Goals as goal

pub overflow_mul-all : goal.overflow_mul-all
overflow_mul-all c = omega (arith, filled_small c.args.base c.loop-n.n (c.loop-n.n - 1) c.loop-n.all (omega arith) (omega arith) c.loop-n.invariant c.requires)

pub loop-n-preserved : goal.loop-n-preserved
loop-n-preserved c = filled_next c.args.base c.loop-n.n (c.loop-n.n - 1) c.loop-n.all (omega arith) (omega arith) c.loop-n.invariant
