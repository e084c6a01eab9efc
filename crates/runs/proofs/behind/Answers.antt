-- The highest 64-bit number shifted right by so many bytes is the highest of the bytes that are left.
use Rattle.runs.proofs.Keys.{behind_is}
use mathlib.Core.Path.{◌≡◌, ap, ◌∙◌}
use Prim.Native.Nat.{ℕ, ◌+◌, ◌-◌, ◌*◌, ◌/◌, ◌^◌, pred}
use native.Mathlib.Omega.{arith}
use Rattle.runs.proofs.behind.Goals as goal

pub returns : goal.returns
returns c = let e : c.args.length - 1 ≡ pred c.args.length = omega arith in ap (λ (k : ℕ). 18446744073709551615 / 2 ^ (8 * k) + 1) e ∙ behind_is (pred c.args.length) (omega arith)
