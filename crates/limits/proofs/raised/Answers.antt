-- The remainder is at most twice the limit exactly where the signed number is within it.
use native.Mathlib.Omega.{arith}
use Rattle.layout_rules.specs.Number.{unsigned_at}
use Rattle.layout_rules.proofs.Limit.{raised_within}
use Rattle.limits.proofs.raised.Goals as goal

pub returns : goal.returns
unfolding unsigned_at
returns c = λ low. raised_within _ _ (omega arith) c.requires.1 (omega arith)
