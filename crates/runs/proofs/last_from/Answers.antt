-- The next leaf is above the tail, or the search goes on from it.
use Rattle.runs.proofs.Places.{last_low, next_above}
use native.Mathlib.Omega.{arith}
use Rattle.runs.proofs.last_from.Goals.{else-next-count-via-then-next-count+else-keys-next, else-next-count-via-else-next-count}
use Rattle.runs.proofs.last_from.Goals as goal

pub returns-then-keys-next : goal.returns-then-keys-next
returns-then-keys-next c = last_low _ _ c.args.low _ _ c.requires.2 c.first_above.ensures

pub returns : goal.returns
returns c = next_above _ _ _ c.args.low c.requires.0 c.requires.2 (λ there. elim c.else-next-count.branch [
  | else-next-count-via-then-next-count+else-keys-next w ↦ omega (arith, w.if-keys-next)
  | else-next-count-via-else-next-count w ↦ absurd (omega (arith, there, w.if-next-count))
])
