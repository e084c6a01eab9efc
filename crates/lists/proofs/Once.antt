-- Lists that have each thing of a kind once: none, one more, the same kind by another name; and two of them are equally long.
use mathlib.Core.Path.{◌≡◌, refl, sym, ap, subst, ◌∙◌}
use mathlib.Core.Bool.{true, false}
use mathlib.Core.Logic.{◌⊎◌, inl, inr}
use mathlib.Core.List.{List, [], ◌∷◌}
use mathlib.Core.Option.{some, none-ne-some, some-injective}
use Prim.Native.Nat.{ℕ, zero, suc, ◌-◌, ◌<◌, ◌≤◌}
use native.Mathlib.Omega.{arith}
use native.Mathlib.Nat.{le_antisymm}
use native.Mathlib.Decide.{dec_lt}
use lib.Dec.{ltb}
use lib.ListN.{length, get_elem?}
use borrow.Author.Tests.{lt-ltb, le-ltb}
use Rattle.lists.specs.Once.{EachOnce}

module _ {A : Type 0} where
  pub once_none : (P : A → Type 0) → ((x : A) → P x → ⊥) → EachOnce P []
  once_none P empty =
      record {
        only = λ i x e. absurd (none-ne-some x e);
        every = λ x p. absurd (empty x p);
        once = λ i j x e f. absurd (none-ne-some x e);
      }

  pub once_same : (P Q : A → Type 0) (s : List A) → ((x : A) → P x → Q x) → ((x : A) → Q x → P x) → EachOnce P s → EachOnce Q s
  once_same P Q s there back is =
      record { only = λ i x e. there x (is.only i x e); every = λ x q. is.every x (back x q); once = is.once }

  module _ (P Q : A → Type 0) (y : A) (s : List A) (is : EachOnce P s) (new : P y → ⊥) (there : (x : A) → P x → Q x) (here : Q y) (back : (x : A) → Q x → P x ⊎ (x ≡ y)) where
    more_only : (i : ℕ) (x : A) → get_elem? (y ∷ s) i ≡ some x → Q x
    more_only zero x e = subst Q (some-injective y x e) here
    more_only (suc i) x e = there x (is.only i x e)

    more_every : (x : A) → P x ⊎ (x ≡ y) → (i : ℕ) × (get_elem? (y ∷ s) i ≡ some x)
    more_every x (inl p) = let (i, e) = is.every x p in (suc i, e)
    more_every x (inr e) = (zero, ap some (sym e))

    more_once : (i j : ℕ) (x : A) → get_elem? (y ∷ s) i ≡ some x → get_elem? (y ∷ s) j ≡ some x → i ≡ j
    more_once zero zero x e f = refl
    more_once zero (suc j) x e f = absurd (new (subst P (sym (some-injective y x e)) (is.only j x f)))
    more_once (suc i) zero x e f = absurd (new (subst P (sym (some-injective y x f)) (is.only i x e)))
    more_once (suc i) (suc j) x e f = ap suc (is.once i j x e f)

    pub once_more : EachOnce Q (y ∷ s)
    once_more = record { only = more_only; every = λ x q. more_every x (back x q); once = more_once }

-- numbers above one of them, one lower
skip : ℕ → ℕ → ℕ
skip top x = elim (ltb x top) [ true ↦ x | false ↦ x - 1 ]

skip_low : (top x : ℕ) → x < top → skip top x ≡ x
unfolding skip
skip_low top x h = rw (lt-ltb x top h, skip)

skip_high : (top x : ℕ) → top < x → skip top x ≡ x - 1
unfolding skip
skip_high top x h = rw (le-ltb x top (omega arith), skip)

skip_below : (top x n : ℕ) → (x ≡ top → ⊥) → top < suc n → x < suc n → skip top x < n
skip_below top x n other h l =
    elim (dec_lt x top) [
      | yes low ↦ omega (arith, skip_low top x low)
      | no high ↦ elim (dec_lt top x) [ yes above ↦ omega (arith, skip_high top x above) | no same ↦ absurd (other (omega arith)) ]
    ]

skip_same : (top x y : ℕ) → (x ≡ top → ⊥) → (y ≡ top → ⊥) → skip top x ≡ skip top y → x ≡ y
skip_same top x y other another e =
    elim (dec_lt x top) [
      | yes low ↦ elim (dec_lt y top) [
        | yes down ↦ omega (arith, skip_low top x low, skip_low top y down)
        | no up ↦ elim (dec_lt top y) [ yes above ↦ omega (arith, skip_low top x low, skip_high top y above) | no same ↦ absurd (another (omega arith)) ]
      ]
      | no high ↦ elim (dec_lt top x) [
        | yes above ↦ elim (dec_lt y top) [
          | yes down ↦ omega (arith, skip_high top x above, skip_low top y down)
          | no up ↦ elim (dec_lt top y) [ yes too ↦ omega (arith, skip_high top x above, skip_high top y too) | no same ↦ absurd (another (omega arith)) ]
        ]
        | no same ↦ absurd (other (omega arith))
      ]
    ]

-- m different numbers below n are at most n
different : (m n : ℕ) (f : ℕ → ℕ) → ((i : ℕ) → i < m → f i < n) → ((i j : ℕ) → i < m → j < m → f i ≡ f j → i ≡ j) → m ≤ n
different zero n f low one = omega arith
different (suc m) zero f low one = absurd (omega (arith, low m (omega arith)))
different (suc m) (suc n) f low one =
    let other : (i : ℕ) → i < m → f i ≡ f m → ⊥ = λ i h e. omega (arith, one i m (omega arith) (omega arith) e) in
    let rest = different m n (λ i. skip (f m) (f i))
    (λ i h. skip_below (f m) (f i) n (other i h) (low m (omega arith)) (low i (omega arith)))
    (λ i j h l e. one i j (omega arith) (omega arith) (skip_same (f m) (f i) (f j) (other i h) (other j l) e)) in
    omega (arith, rest)

module _ {A : Type 0} where
  there : (s : List A) (i : ℕ) → i < length s → (x : A) × (get_elem? s i ≡ some x)
  there [] i h = absurd (omega arith)
  there (x ∷ s) zero h = (x, refl)
  there (x ∷ s) (suc i) h = there s i (omega arith)

  inside : (s : List A) (i : ℕ) (x : A) → get_elem? s i ≡ some x → i < length s
  inside [] i x e = absurd (none-ne-some x e)
  inside (y ∷ s) zero x e = omega arith
  inside (y ∷ s) (suc i) x e = omega (arith, inside s i x e)

  module _ (P : A → Type 0) (s t : List A) (is : EachOnce P s) (also : EachOnce P t) where
    entry : (i : ℕ) → i < length s → (x : A) × (get_elem? s i ≡ some x) × ((j : ℕ) × (get_elem? t j ≡ some x))
    entry i h = let (x, e) = there s i h in (x, e, also.every x (is.only i x e))

    -- where the other list has the entry at place i
    placed : (i : ℕ) → (j : ℕ) × (i < length s → (x : A) × (get_elem? s i ≡ some x) × (get_elem? t j ≡ some x))
    placed i =
        elim (dec_lt i (length s)) [
          | yes l ↦ let (x, e, found) = entry i l in (found.0, λ _. (x, e, found.1))
          | no l ↦ (0, λ h. absurd (l h))
        ]

    at_most : length s ≤ length t
    at_most =
        different (length s) (length t) (λ i. (placed i).0) (λ i h. let (x, e, f) = (placed i).1 h in inside t (placed i).0 x f)
        (λ i j h l e. let (x, ex, fx) = (placed i).1 h in let (y, ey, fy) = (placed j).1 l in
        let same : x ≡ y = some-injective x y (sym fx ∙ ap (get_elem? t) e ∙ fy) in is.once i j x ex (ey ∙ ap some (sym same)))

  -- so two of them are equally long
  pub once_long : (P : A → Type 0) (s t : List A) → EachOnce P s → EachOnce P t → length s ≡ length t
  once_long P s t is also = le_antisymm (at_most P s t is also) (at_most P t s also is)
