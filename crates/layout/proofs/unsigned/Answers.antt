-- Two bytes, each below 256.
use native.Mathlib.Omega.{arith}
use Rattle.layout_rules.specs.Number.{unsigned_at}
use Rattle.layout.proofs.unsigned.Goals as goal

pub returns : goal.returns
unfolding unsigned_at
returns c = omega arith
