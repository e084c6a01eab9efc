-- Laws of `span`: its length, its entries, when two are equal, how it splits.
use mathlib.Core.Path.{◌≡◌, refl, sym, ap, ◌∙◌}
use mathlib.Core.List.{List, ◌++◌, map}
use Prim.Native.Nat.{ℕ, zero, suc, ◌+◌, ◌<◌}
use native.Mathlib.Omega.{arith}
use native.Mathlib.Nat.{add-zero, zero-add, suc-add, add-suc, not-suc-le-zero}
use lib.ListN.{length, get_or, take, drop}
use lib.Seq.{ext_get_or, take_at, drop_at}
use Rattle.lists.proofs.Cons.{cons≡}
use Rattle.lists.specs.Span.{span}

module _ {A : Type 0} where
  pub length_span : (f : ℕ → A) (i n : ℕ) → length (span f i n) ≡ n
  unfolding span
  length_span f i zero = refl
  length_span f i (suc n) = ap suc (length_span f (suc i) n)

  pub get_d_span : (f : ℕ → A) (i n k : ℕ) (d : A) → k < n → get_or (span f i n) k d ≡ f (i + k)
  unfolding span
  get_d_span f i zero k d h = absurd (not-suc-le-zero h)
  get_d_span f i (suc n) zero d h = ap f (sym (add-zero i))
  get_d_span f i (suc n) (suc k) d h = get_d_span f (suc i) n k d (omega arith) ∙ ap f (simp (suc-add, add-suc))

  -- two functions that agree at the places give the same list
  pub span_ext : (f g : ℕ → A) (i j n : ℕ) → ((k : ℕ) → k < n → f (i + k) ≡ g (j + k)) → span f i n ≡ span g j n
  unfolding span
  span_ext f g i j zero h = refl
  span_ext f g i j (suc n) h =
      cons≡ (rw (add-zero, add-zero) at (h 0 (omega arith)))
      (span_ext f g (suc i) (suc j) n (λ k le. simp (suc-add, ← add-suc) (h (suc k) (omega arith))))

  pub span_add : (f : ℕ → A) (i n m : ℕ) → span f i (n + m) ≡ span f i n ++ span f (i + n) m
  unfolding span
  span_add f i zero m = rw (zero-add, add-zero)
  span_add f i (suc n) m = rw suc-add (cons≡ refl (rw (span_add f (suc i) n m, suc-add, ← add-suc)))

  pub take_span : (f : ℕ → A) (i n m : ℕ) → take n (span f i (n + m)) ≡ span f i n
  take_span f i n m = rw span_add (take_at (span f i n) _ n (length_span f i n))

  pub drop_span : (f : ℕ → A) (i n m : ℕ) → drop n (span f i (n + m)) ≡ span f (i + n) m
  drop_span f i n m = rw span_add (drop_at (span f i n) _ n (length_span f i n))

  -- any list is the span of its entries
  pub span_get_d : (l : List A) (d : A) → span (λ k. get_or l k d) 0 (length l) ≡ l
  span_get_d l d =
      ext_get_or d (span (λ k. get_or l k d) 0 (length l)) l (length_span _ 0 (length l)) (λ k h. get_d_span _ 0 (length l) k d (rw (length_span (λ k. get_or l k d) 0 (length l)) at h) ∙ ap (λ (n : ℕ). get_or l n d) (zero-add k))

  -- a list of n entries, entry by entry
  pub listed : (d : A) (n : ℕ) (l : List A) → length l ≡ n → l ≡ span (λ k. get_or l k d) 0 n
  listed d n l h = sym (span_get_d l d) ∙ ap (span (λ k. get_or l k d) 0) h

module _ {A B : Type 0} where
  pub map_span : (g : A → B) (f : ℕ → A) (i n : ℕ) → map g (span f i n) ≡ span (λ k. g (f k)) i n
  unfolding span
  map_span g f i zero = refl
  map_span g f i (suc n) = cons≡ refl (map_span g f (suc i) n)
