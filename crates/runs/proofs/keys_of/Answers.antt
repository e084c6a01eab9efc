use native.Mathlib.Omega.{arith}
use Rattle.runs.proofs.keys_of.Goals as goal

pub loop-leaf-init : goal.loop-leaf-init
loop-leaf-init c = λ k h. absurd (omega arith)
