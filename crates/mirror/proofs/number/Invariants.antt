-- After i digits the number is that of i digits, below the power of 256.
use Rattle.mirror_rules.specs.Half.{word_digit}
use Rattle.radix.specs.Number.{number}
use Prim.Native.Nat.{◌+◌, ◌*◌, ◌^◌, ◌<◌}
use mathlib.Core.Path.{◌≡◌}
use Rattle.mirror.proofs.number.Given as goal

abbrev pub invariant-loop-i : goal.invariant-loop-i
invariant-loop-i l = (l.all ≡ number 256 (λ n. word_digit l.positive l.words l.mirrored (l.width * l.k + n)) l.i) × (l.all < 256 ^ l.i)
