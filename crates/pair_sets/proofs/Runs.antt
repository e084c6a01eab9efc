-- A run that is walked further.
use mathlib.Core.Path.{◌≡◌, subst}
use mathlib.Core.List.{List}
use Prim.Native.Nat.{ℕ, ◌+◌, ◌-◌, ◌≤◌}
use native.Mathlib.Omega.{arith}
use native.Mathlib.Nat.{le_antisymm}
use native.Mathlib.Decide.{dec_lt}
use lib.ListN.{get_or}
use lib.Bits.{bit_or}
use Rattle.weight_sets.specs.Bits.{Has}
use Rattle.pair_sets.specs.Runs.{InRun}
use Rattle.weight_sets.specs.Weights.{Covers}
use Rattle.weight_sets.proofs.Bits.{has_left, has_right}

module _ (numbers : List ℕ) (count : ℕ) where
  pub run_more : (sets : List ℕ) (start set₀ leaf n : ℕ) → leaf + n ≤ count → Covers numbers sets count n → InRun numbers start set₀ leaf → InRun numbers start (bit_or set₀ (get_or sets leaf 0)) (leaf + n)
  run_more sets start set₀ leaf n room covers before k low high =
      elim (dec_lt k leaf) [
        | yes l ↦ has_left set₀ (get_or sets leaf 0) _ (before k low l)
        | no l ↦ let e : leaf + (k - leaf) ≡ k = omega arith in
            has_right set₀ (get_or sets leaf 0) _ (subst (λ (i : ℕ). Has (get_or sets leaf 0) (get_or numbers i 0)) e (covers leaf (k - leaf) (omega arith) (omega arith)))
      ]

  pub run_next : (start set₀ leaf one : ℕ) → Has one (get_or numbers leaf 0) → InRun numbers start set₀ leaf → InRun numbers start (bit_or set₀ one) (leaf + 1)
  run_next start set₀ leaf one new before k low high =
      elim (dec_lt k leaf) [
        | yes l ↦ has_left set₀ one _ (before k low l)
        | no l ↦ let e : leaf ≡ k = le_antisymm (omega arith) (omega arith) in has_right set₀ one _ (subst (λ (i : ℕ). Has one (get_or numbers i 0)) e new)
      ]
