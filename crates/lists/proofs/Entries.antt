-- Entries of a buffer into which a run was written, place by place.
use mathlib.Core.Path.{◌≡◌, sym, ap, subst, ◌∙◌}
use mathlib.Core.List.{List, [], ◌∷◌, ◌++◌}
use Prim.Native.Nat.{ℕ, ◌+◌, ◌-◌, ◌<◌, ◌≤◌}
use native.Mathlib.Omega.{arith}
use native.Mathlib.Nat.{zero-add, le_antisymm}
use native.Mathlib.Decide.{dec_lt}
use lib.ListN.{replicate, length, get_or, take, drop, set, length-drop, length-replicate, get_or-replicate, get_or-append, get_or-eq_default}
use lib.Seq.{length-take-le, get_or-take, get_or-drop, get_or-append-add, ext_get_or, get_or-set_same, get_or-set_other}
use Rattle.lists.specs.Span.{span}
use Rattle.lists.specs.Overwrite.{overwrite}
use Rattle.lists.proofs.Span.{length_span, span_add}
use Rattle.lists.proofs.Overwrite.{overwrite_snoc}

span_snoc : (f : ℕ → ℕ) (i n : ℕ) → span f i (n + 1) ≡ span f i n ++ (f (i + n) ∷ [])
unfolding span
span_snoc f i n = span_add f i n 1

pub written_next : (s : List ℕ) (f : ℕ → ℕ) (p i n : ℕ) → p + n < length s → set (overwrite s p (span f i n)) (p + n) (f (i + n)) ≡ overwrite s p (span f i (n + 1))
written_next s f p i n h =
    let l : length (span f i n) ≡ n = length_span f i n in
    ap (λ (k : ℕ). set (overwrite s p (span f i n)) (p + k) (f (i + n))) (sym l)
    ∙ overwrite_snoc s p (span f i n) (f (i + n)) (omega arith)
    ∙ ap (overwrite s p) (sym (span_snoc f i n))

-- from the start of a buffer on
pub first_written : (s t : List ℕ) (f : ℕ → ℕ) (k v : ℕ) → k < length s → t ≡ overwrite s 0 (span f 0 k) → v ≡ f k → set t k v ≡ overwrite s 0 (span f 0 (k + 1))
first_written s t f k v h e w =
    (λ i. set (e i) (sym (zero-add k) i) ((w ∙ ap f (sym (zero-add k))) i)) ∙ written_next s f 0 0 k (omega arith)

-- the entries of a buffer after a run was written
module _ (s new : List ℕ) (p : ℕ) (fits : p + length new ≤ length s) where
  pub overwrite_before : (k : ℕ) → k < p → get_or (overwrite s p new) k 0 ≡ get_or s k 0
  unfolding overwrite
  overwrite_before k h = get_or-append (take p s) _ 0 k (omega (arith, length-take-le p s (omega arith))) ∙ get_or-take p s k 0 h

  pub overwrite_in : (k : ℕ) → k < length new → get_or (overwrite s p new) (p + k) 0 ≡ get_or new k 0
  unfolding overwrite
  overwrite_in k h =
      let rest = new ++ drop (p + length new) s in
      ap (λ (n : ℕ). get_or (take p s ++ rest) (n + k) 0) (sym (length-take-le p s (omega arith))) ∙ get_or-append-add (take p s) rest k 0 ∙ get_or-append new _ 0 k h

  pub overwrite_behind : (k : ℕ) → get_or (overwrite s p new) (p + length new + k) 0 ≡ get_or s (p + length new + k) 0
  unfolding overwrite
  overwrite_behind k =
      let rest = new ++ drop (p + length new) s in
      let at : p + length new + k ≡ length (take p s) + (length new + k) = omega (arith, length-take-le p s (omega arith)) in
      ap (λ (n : ℕ). get_or (take p s ++ rest) n 0) at ∙ get_or-append-add (take p s) rest (length new + k) 0 ∙ get_or-append-add new _ k 0 ∙ get_or-drop (p + length new) s k 0

-- a row of zeros, within and past its end
pub zeros_at : (n k : ℕ) → get_or (replicate {A = ℕ} n 0) k 0 ≡ 0
zeros_at n k =
    elim (dec_lt k n) [
      | yes h ↦ get_or-replicate n k 0 0 h
      | no h ↦ get_or-eq_default (replicate n 0) 0 {n = k} (omega (arith, length-replicate {A = ℕ} n 0))
    ]

-- two buffers of one length that have the same entries from a place on
pub rest_same : (s t : List ℕ) (n : ℕ) → length s ≡ length t → ((j : ℕ) → n ≤ j → get_or s j 0 ≡ get_or t j 0) → drop n s ≡ drop n t
rest_same s t n long same =
    ext_get_or 0 (drop n s) (drop n t) (length-drop n s ∙ ap (λ (m : ℕ). m - n) long ∙ sym (length-drop n t)) (λ i h. get_or-drop n s i 0 ∙ same (n + i) (omega arith) ∙ sym (get_or-drop n t i 0))

-- what holds of the first n entries holds of one more
pub entry_next : (P : ℕ → ℕ → Type 0) (xs : List ℕ) (n v : ℕ) → n < length xs → ((k : ℕ) → k < n → P k (get_or xs k 0)) → P n v → (k : ℕ) → k < n + 1 → P k (get_or (set xs n v) k 0)
entry_next P xs n v inside before now k h =
    elim (dec_lt k n) [
      | yes l ↦ subst (P k) (sym (get_or-set_other xs n k v 0 (λ e. omega arith))) (before k l)
      | no l ↦ let last : n ≡ k = le_antisymm (omega arith) (omega arith) in subst (λ (j : ℕ). P j (get_or (set xs n v) j 0)) last (subst (P n) (sym (get_or-set_same xs n v 0 inside)) now)
    ]
