-- The first parts are read, and zero stands behind them.
use mathlib.Core.Path.{◌≡◌}
use Prim.Native.Nat.{◌+◌, ◌*◌}
use Rattle.lists.specs.Span.{span}
use Rattle.layout_rules.specs.Number.{signed_at}
use Rattle.ring.specs.Padded.{padded}
use Rattle.ring.specs.Tests.{Within}
use Rattle.digits.proofs.parts_at.Given as goal

abbrev pub invariant-loop-k : goal.invariant-loop-k
invariant-loop-k g l = (l.parts ≡ padded (span (λ k. signed_at l.bytes (l.at + 2 * k)) 0 l.k)) × Within 32768 l.parts
