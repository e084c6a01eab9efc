-- A shifted one is the power of two, which fits 64 bits.
use lib.Pow.{pow-lt}
use native.Mathlib.Nat.{one-mul, mod-eq_of_lt}
use mathlib.Core.Path.{ap, ◌∙◌}
use Prim.Native.Nat.{ℕ, ◌%◌, ◌^◌}
use native.Mathlib.Omega.{arith}
use Rattle.weight_sets.proofs.single.Goals as goal

pub returns : goal.returns
returns c = ap (λ (x : ℕ). x % 2 ^ 64) (one-mul (2 ^ c.args.number)) ∙ mod-eq_of_lt (pow-lt {i = c.args.number} {j = 64} (omega arith))
