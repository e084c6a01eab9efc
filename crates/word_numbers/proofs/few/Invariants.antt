-- The bytes passed are a number below the power of 256.
use Prim.Native.Nat.{◌<◌, ◌^◌}
use Rattle.word_numbers.proofs.Shift.{from}
use Rattle.radix.specs.Number.{number}
use mathlib.Core.Path.{◌≡◌}
use Rattle.word_numbers.proofs.few.Given as goal

abbrev pub invariant-loop-i : goal.invariant-loop-i
invariant-loop-i l = (l.all ≡ number 256 (from l.bytes l.at) l.i) × (l.all < 256 ^ l.i)
