-- A row of 256 places filled from one place on.
use mathlib.Core.Path.{◌≡◌, sym, ap, subst, ◌∙◌}
use Prim.Native.Nat.{ℕ, ◌+◌, ◌-◌, ◌<◌, ◌≤◌}
use mathlib.Core.List.{List}
use native.Mathlib.Omega.{arith}
use native.Mathlib.Nat.{sub_self}
use native.Mathlib.Decide.{dec_lt}
use lib.ListN.{replicate, length, get_or, set, length-replicate}
use Rattle.lists.specs.Span.{span}
use Rattle.lists.specs.Overwrite.{overwrite}
use Rattle.lists.proofs.Span.{length_span, get_d_span}
use Rattle.lists.proofs.Overwrite.{overwrite_none}
use Rattle.lists.proofs.Entries.{written_next, overwrite_before, overwrite_in, overwrite_behind, zeros_at}
use Rattle.place_rules.specs.Helpers.{part_row}

-- a row filled from place i on
pub row_start : (f : ℕ → ℕ) (i : ℕ) → replicate 256 0 ≡ part_row f i i
unfolding part_row span
row_start f i = rw (sub_self i) (sym (overwrite_none (replicate 256 0) i))

pub row_next : (f : ℕ → ℕ) (i n : ℕ) (row : List ℕ) (v : ℕ) → i ≤ n → n < 256 → row ≡ part_row f i n → v ≡ f n → set row n v ≡ part_row f i (n + 1)
unfolding part_row
row_next f i n row v l h e w =
    let at : n ≡ i + (n - i) = omega arith in
    let next : n - i + 1 ≡ n + 1 - i = omega arith in
    (λ j. set (e j) (at j) ((w ∙ ap f at) j)) ∙ written_next (replicate 256 0) f i i (n - i) (omega (arith, length-replicate {A = ℕ} 256 0)) ∙ ap (λ (m : ℕ). overwrite (replicate 256 0) i (span f i m)) next

module _ (f : ℕ → ℕ) (i n : ℕ) (low : i ≤ n) (high : n ≤ 256) where
  fitting : i + length (span f i (n - i)) ≤ length (replicate {A = ℕ} 256 0)
  fitting = omega (arith, length-replicate {A = ℕ} 256 0, length_span f i (n - i))

  pub part_in : (k : ℕ) → i ≤ k → k < n → get_or (part_row f i n) k 0 ≡ f k
  unfolding part_row
  part_in k l h =
      let at : k ≡ i + (k - i) = omega arith in
      ap (λ (m : ℕ). get_or (overwrite (replicate 256 0) i (span f i (n - i))) m 0) at
      ∙ overwrite_in (replicate 256 0) (span f i (n - i)) i fitting (k - i) (omega (arith, length_span f i (n - i)))
      ∙ get_d_span f i (n - i) (k - i) 0 (omega arith)
      ∙ ap f (sym at)

  pub part_before : (k : ℕ) → k < i → get_or (part_row f i n) k 0 ≡ 0
  unfolding part_row
  part_before k h = overwrite_before (replicate 256 0) (span f i (n - i)) i fitting k h ∙ zeros_at 256 k

  pub part_behind : (k : ℕ) → n ≤ k → get_or (part_row f i n) k 0 ≡ 0
  unfolding part_row
  part_behind k h =
      let new = span f i (n - i) in
      let at : k ≡ i + length new + (k - n) = omega (arith, length_span f i (n - i)) in
      ap (λ (m : ℕ). get_or (overwrite (replicate 256 0) i new) m 0) at ∙ overwrite_behind (replicate 256 0) new i fitting (k - n) ∙ zeros_at 256 (i + length new + (k - n))

  -- each entry is zero or f at its place
  pub part_each : (R : ℕ → Type 0) → R 0 → ((k : ℕ) → i ≤ k → k < n → R (f k)) → (k : ℕ) → R (get_or (part_row f i n) k 0)
  part_each R zero each k =
      elim (dec_lt k i) [
        | yes h ↦ subst R (sym (part_before k h)) zero
        | no h ↦ elim (dec_lt k n) [
          | yes l ↦ subst R (sym (part_in k (omega arith) l)) (each k (omega arith) l)
          | no l ↦ subst R (sym (part_behind k (omega arith))) zero
        ]
      ]
