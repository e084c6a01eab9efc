-- Laws of `overwrite`: nothing, one entry, one run after the other, the length.
use mathlib.Core.Path.{◌≡◌, sym, ap, ◌∙◌}
use mathlib.Core.List.{List, [], ◌∷◌, ◌++◌, append_assoc}
use Prim.Native.Nat.{ℕ, ◌+◌, ◌<◌, ◌≤◌}
use native.Mathlib.Omega.{arith}
use native.Mathlib.Nat.{add-zero, add_assoc}
use native.Mathlib.Numerals.{add-one}
use lib.ListN.{length, get_or, take, drop, set, length-append, length-drop, take-append-drop}
use lib.Seq.{set_split, drop-append-add, drop-drop, length-take-le, take_at, take-suc}
use Rattle.lists.specs.Overwrite.{overwrite}

module _ {A : Type 0} where
  pub overwrite_none : (s : List A) (p : ℕ) → overwrite s p [] ≡ s
  unfolding overwrite
  overwrite_none s p = rw add-zero (take-append-drop p s)

  pub overwrite_one : (s : List A) (p : ℕ) (a : A) → p < length s → overwrite s p (a ∷ []) ≡ set s p a
  unfolding overwrite
  overwrite_one s p a h = rw add-one (sym (set_split s p a h))

  pub length_overwrite : (s : List A) (p : ℕ) (new : List A) → p + length new ≤ length s → length (overwrite s p new) ≡ length s
  unfolding overwrite
  length_overwrite s p new h =
      omega (arith, length-append (take p s) (new ++ drop (p + length new) s), length-append new (drop (p + length new) s), length-take-le p s (omega arith), length-drop (p + length new) s)

  -- a second run right behind the first
  pub overwrite_append : (s : List A) (p : ℕ) (a b : List A) → p + length a ≤ length s → overwrite (overwrite s p a) (p + length a) b ≡ overwrite s p (a ++ b)
  unfolding overwrite
  overwrite_append s p a b h =
      let rest = drop (p + length a) s in
      let front = take p s ++ a in
      let l : length front ≡ p + length a = omega (arith, length-append (take p s) a, length-take-le p s (omega arith)) in
      let split : take p s ++ (a ++ rest) ≡ front ++ rest = sym (append_assoc (take p s) a rest) in
      let behind : drop (p + length a + length b) (front ++ rest) ≡ drop (p + length (a ++ b)) s = ap (λ (n : ℕ). drop (n + length b) (front ++ rest)) (sym l) ∙ drop-append-add front rest (length b) ∙ drop-drop (length b) (p + length a) s ∙ ap (λ (n : ℕ). drop n s) (add_assoc p (length a) (length b) ∙ ap (λ (n : ℕ). p + n) (sym (length-append a b))) in
      rw (split, behind, take_at front rest (p + length a) l) (append_assoc (take p s) a (b ++ drop (p + length (a ++ b)) s) ∙ ap (λ (x : List A). take p s ++ x) (sym (append_assoc a b (drop (p + length (a ++ b)) s))))

  -- one entry more
  pub overwrite_snoc : (s : List A) (p : ℕ) (a : List A) (b : A) → p + length a < length s → set (overwrite s p a) (p + length a) b ≡ overwrite s p (a ++ (b ∷ []))
  overwrite_snoc s p a b h =
      sym (overwrite_one (overwrite s p a) (p + length a) b (omega (arith, length_overwrite s p a (omega arith)))) ∙ overwrite_append s p a (b ∷ []) (omega arith)

  -- the next entry of a list
  pub overwrite_step : (s : List A) (p : ℕ) (new : List A) (i : ℕ) (d : A) → p + length new ≤ length s → i < length new → set (overwrite s p (take i new)) (p + i) (get_or new i d) ≡ overwrite s p (take (i + 1) new)
  overwrite_step s p new i d h l =
      let n : length (take i new) ≡ i = length-take-le i new (omega arith) in
      ap (λ (k : ℕ). set (overwrite s p (take i new)) (p + k) (get_or new i d)) (sym n)
      ∙ overwrite_snoc s p (take i new) (get_or new i d) (omega arith)
      ∙ ap (overwrite s p) (sym (take-suc new i d l) ∙ ap (λ (k : ℕ). take k new) (sym (add-one i)))
