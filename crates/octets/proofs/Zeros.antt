-- Bytes that are 0 from a place on.
use mathlib.Core.Path.{◌≡◌, sym, ap, ◌∙◌}
use mathlib.Core.List.{List}
use Prim.Native.Nat.{ℕ, ◌+◌, ◌-◌, ◌<◌, ◌≤◌}
use native.Mathlib.Decide.{dec_lt}
use native.Mathlib.Omega.{arith}
use lib.ListN.{length, get_or, take, drop, length-take, length-drop}
use lib.Seq.{get_or-take, get_or-drop}

abbrev pub ZerosFrom : List ℕ → ℕ → Type 0
ZerosFrom s n = (k : ℕ) → n ≤ k → get_or s k 0 ≡ 0

-- a part in front of them whose highest byte is 0
pub zeros_part : (s : List ℕ) (half end top : ℕ) → half ≤ end → end ≤ length s → ZerosFrom s end → ((k : ℕ) → k < length (take (end - half) (drop half s)) → get_or (take (end - half) (drop half s)) k 0 ≤ top) → top ≡ 0 → ZerosFrom s half
zeros_part s half end top h l zeros high none k low =
    elim (dec_lt k end) [
      | yes m ↦ ap (λ (n : ℕ). get_or s n 0) at ∙ sym (get_or-drop half s (k - half) 0) ∙ sym (get_or-take (end - half) (drop half s) (k - half) 0 (omega arith)) ∙ lowest (high (k - half) (long m))
      | no m ↦ zeros k (omega arith)
    ]
  where
    at : k ≡ half + (k - half)
    at = omega arith

    long : k < end → k - half < length (take (end - half) (drop half s))
    long m = simp (length-take, length-drop) (omega arith)

    lowest : {n : ℕ} → n ≤ top → n ≡ 0
    lowest e = omega arith
