-- The bits of both are in it.
use lib.Bits.{or_add_and, and_le_l, and_le_r}
use native.Mathlib.Omega.{arith}
use Rattle.limits.proofs.at_least.Goals as goal

pub returns : goal.returns
returns c = record { one = omega (arith, or_add_and c.args.a c.args.b, and_le_r c.args.a c.args.b); other = omega (arith, or_add_and c.args.a c.args.b, and_le_l c.args.a c.args.b) }
