-- Below 128 the byte itself, else the byte with its sign carried on.
use Rattle.mirror_rules.proofs.Mirror.{bits_low, bits_high}
use native.Mathlib.Omega.{arith}
use Rattle.mirror.proofs.stored_bits.Goals as goal

pub returns-then-low-lt128 : goal.returns-then-low-lt128
returns-then-low-lt128 c = record { bits = omega (arith, bits_low c.args.byte (omega arith)); within = omega arith }

pub returns-else-low-lt128 : goal.returns-else-low-lt128
returns-else-low-lt128 c = record { bits = omega (arith, bits_high c.args.byte (omega arith) (omega arith)); within = omega arith }
