-- What holds of each number below n, shown one by one: at a numeral `Each P n` is a tuple with a part for each.
use mathlib.Core.Path.{subst}
use Prim.Native.Nat.{ℕ, zero, suc, ◌<◌}
use native.Mathlib.Decide.{dec_lt}
use native.Mathlib.Nat.{le_antisymm, not-suc-le-zero}
use native.Mathlib.Omega.{arith}

abbrev pub Each : (ℕ → Type 0) → ℕ → Type 0
Each P zero = Unit
Each P (suc n) = Each P n × P n

pub each : (P : ℕ → Type 0) (n : ℕ) → Each P n → (k : ℕ) → k < n → P k
each P zero all k h = absurd (not-suc-le-zero h)
each P (suc n) all k h =
    elim (dec_lt k n) [
      | yes l ↦ each P n all.0 k l
      | no l ↦ subst P (le_antisymm {n = n} {m = k} (omega arith) (omega arith)) all.1
    ]
