-- A solver for identities of integers with variables: both sides as expressions, their difference as a polynomial whose
-- coefficients are all zero, which is computed. Polynomials in one variable more are lists of coefficients.
use mathlib.Core.Path.{◌≡◌, refl, sym, ap, ap₂, ◌∙◌}
use mathlib.Core.Bool.{Bool, true, ◌&&◌}
use mathlib.Core.List.{List, [], ◌∷◌, map}
use Prim.Native.Nat.{ℕ, zero, suc}
use lib.ListN.{get_or}
use lib.IntN.{ℤ, pos, negsuc, neg_ℤ, ◌+ℤ◌, ◌-ℤ◌, ◌*ℤ◌, +ℤ_idl, +ℤ_idr, *ℤ-zero, zero-*ℤ}
use Rattle.lists.proofs.Test.{both}
use Rattle.integers.specs.Test.{eq_z}
use Rattle.integers.proofs.Test.{eq_z→≡}
use Rattle.integers.proofs.Laws.{*-distrib, +-distrib, *-assoc, *-left_comm, +-cross, *-one, one-*, neg-*, -zero→≡}

-- coefficients, and their value under an assignment of the variables
pub record Level : Type 1 where
  pub carrier : Type 0
  pub add : carrier → carrier → carrier
  pub mul : carrier → carrier → carrier
  pub lit : ℤ → carrier
  pub is_zero : carrier → Bool
  pub value : carrier → ℤ
  pub value_add : (p q : carrier) → value (add p q) ≡ value p +ℤ value q
  pub value_mul : (p q : carrier) → value (mul p q) ≡ value p *ℤ value q
  pub value_lit : (k : ℤ) → value (lit k) ≡ k
  pub value_zero : (p : carrier) → is_zero p ≡ true → value p ≡ pos 0

abbrev pub numbers : Level
numbers =
    record {
      carrier = ℤ;
      add = λ p q. p +ℤ q;
      mul = λ p q. p *ℤ q;
      lit = λ k. k;
      is_zero = λ p. eq_z p (pos 0);
      value = λ p. p;
      value_add = λ p q. refl;
      value_mul = λ p q. refl;
      value_lit = λ k. refl;
      value_zero = λ p h. eq_z→≡ p (pos 0) h;
    }

-- one variable more, of value x
module _ (L : Level) (x : ℤ) where
  abbrev sum_l : List L.carrier → List L.carrier → List L.carrier
  sum_l [] q = q
  sum_l (a ∷ p) [] = a ∷ p
  sum_l (a ∷ p) (b ∷ q) = L.add a b ∷ sum_l p q

  abbrev times_l : List L.carrier → List L.carrier → List L.carrier
  times_l [] q = []
  times_l (a ∷ p) q = sum_l (map (L.mul a) q) (L.lit (pos 0) ∷ times_l p q)

  abbrev zero_l : List L.carrier → Bool
  zero_l [] = true
  zero_l (a ∷ p) = L.is_zero a && zero_l p

  abbrev at : List L.carrier → ℤ
  at [] = pos 0
  at (a ∷ p) = L.value a +ℤ x *ℤ at p

  pub at_sum : (p q : List L.carrier) → at (sum_l p q) ≡ at p +ℤ at q
  at_sum [] q = sym (+ℤ_idl (at q))
  at_sum (a ∷ p) [] = sym (+ℤ_idr (at (a ∷ p)))
  at_sum (a ∷ p) (b ∷ q) =
      rw (L.value_add a b, at_sum p q, *-distrib x (at p) (at q)) (+-cross (L.value a) (L.value b) (x *ℤ at p) (x *ℤ at q))

  at_scaled : (a : L.carrier) (q : List L.carrier) → at (map (L.mul a) q) ≡ L.value a *ℤ at q
  at_scaled a [] = sym (*ℤ-zero (L.value a))
  at_scaled a (b ∷ q) =
      rw (L.value_mul a b, at_scaled a q, *-distrib (L.value a) (L.value b) (x *ℤ at q), *-left_comm (L.value a) x (at q))

  pub at_times : (p q : List L.carrier) → at (times_l p q) ≡ at p *ℤ at q
  at_times [] q = sym (zero-*ℤ (at q))
  at_times (a ∷ p) q =
      at_sum (map (L.mul a) q) (L.lit (pos 0) ∷ times_l p q) ∙ rw (at_scaled a q, L.value_lit (pos 0), at_times p q, +ℤ_idl (x *ℤ (at p *ℤ at q)), +-distrib (L.value a) (x *ℤ at p) (at q), *-assoc x (at p) (at q))

  pub at_zero : (p : List L.carrier) → zero_l p ≡ true → at p ≡ pos 0
  at_zero [] h = refl
  at_zero (a ∷ p) h =
      let b = both (L.is_zero a) (zero_l p) h in
      rw (L.value_zero a b.0, at_zero p b.1, *ℤ-zero x)

  abbrev pub adjoin : Level
  adjoin =
      record {
        carrier = List L.carrier;
        add = sum_l;
        mul = times_l;
        lit = λ k. L.lit k ∷ [];
        is_zero = zero_l;
        value = at;
        value_add = at_sum;
        value_mul = at_times;
        value_lit = λ k. rw (L.value_lit k, *ℤ-zero x, +ℤ_idr k);
        value_zero = at_zero;
      }

abbrev pub level : List ℤ → Level
level [] = numbers
level (x ∷ xs) = adjoin (level xs) x

abbrev pub variable : (xs : List ℤ) → ℕ → (level xs).carrier
variable [] k = pos 0
variable (x ∷ xs) zero = (level xs).lit (pos 0) ∷ (level xs).lit (pos 1) ∷ []
variable (x ∷ xs) (suc k) = variable xs k ∷ []

value_variable : (xs : List ℤ) (k : ℕ) → (level xs).value (variable xs k) ≡ get_or xs k (pos 0)
value_variable [] k = refl
value_variable (x ∷ xs) zero =
    rw ((level xs).value_lit (pos 0), (level xs).value_lit (pos 1), *ℤ-zero x, +ℤ_idr (pos 1), *-one x, +ℤ_idl x)
value_variable (x ∷ xs) (suc k) = rw (value_variable xs k, *ℤ-zero x, +ℤ_idr (get_or xs k (pos 0)))

infixl 6 ◌⊕◌ ◌⊖◌
infixl 7 ◌⊗◌
pub data Expression : Type 0 where
  var : ℕ → Expression
  num : ℤ → Expression
  ◌⊕◌ : Expression → Expression → Expression
  ◌⊖◌ : Expression → Expression → Expression
  ◌⊗◌ : Expression → Expression → Expression

-- the integer that an expression stands for, the variables being the entries of the list
abbrev pub meaning : List ℤ → Expression → ℤ
meaning xs (var k) = get_or xs k (pos 0)
meaning xs (num k) = k
meaning xs (a ⊕ b) = meaning xs a +ℤ meaning xs b
meaning xs (a ⊖ b) = meaning xs a -ℤ meaning xs b
meaning xs (a ⊗ b) = meaning xs a *ℤ meaning xs b

abbrev pub polynomial : (xs : List ℤ) → Expression → (level xs).carrier
polynomial xs (var k) = variable xs k
polynomial xs (num k) = (level xs).lit k
polynomial xs (a ⊕ b) = (level xs).add (polynomial xs a) (polynomial xs b)
polynomial xs (a ⊖ b) = (level xs).add (polynomial xs a) ((level xs).mul ((level xs).lit (negsuc 0)) (polynomial xs b))
polynomial xs (a ⊗ b) = (level xs).mul (polynomial xs a) (polynomial xs b)

minus_one-* : (a : ℤ) → negsuc 0 *ℤ a ≡ neg_ℤ a
minus_one-* a = neg-* (pos 1) a ∙ ap neg_ℤ (one-* a)

value_polynomial : (xs : List ℤ) (e : Expression) → (level xs).value (polynomial xs e) ≡ meaning xs e
value_polynomial xs (var k) = value_variable xs k
value_polynomial xs (num k) = (level xs).value_lit k
value_polynomial xs (a ⊕ b) =
    (level xs).value_add (polynomial xs a) (polynomial xs b) ∙ ap₂ (λ u v. u +ℤ v) (value_polynomial xs a) (value_polynomial xs b)
value_polynomial xs (a ⊖ b) =
    (level xs).value_add (polynomial xs a) _ ∙ ap₂ (λ u v. u +ℤ v) (value_polynomial xs a) ((level xs).value_mul ((level xs).lit (negsuc 0)) (polynomial xs b) ∙ ap₂ (λ u v. u *ℤ v) ((level xs).value_lit (negsuc 0)) (value_polynomial xs b) ∙ minus_one-* (meaning xs b))
value_polynomial xs (a ⊗ b) =
    (level xs).value_mul (polynomial xs a) (polynomial xs b) ∙ ap₂ (λ u v. u *ℤ v) (value_polynomial xs a) (value_polynomial xs b)

-- the two sides are equal where the polynomial of their difference computes to zero: `solve xs a b refl`
pub solve : (xs : List ℤ) (a b : Expression) → (level xs).is_zero (polynomial xs (a ⊖ b)) ≡ true → meaning xs a ≡ meaning xs b
solve xs a b h =
    -zero→≡ (meaning xs a) (meaning xs b) (sym (value_polynomial xs (a ⊖ b)) ∙ (level xs).value_zero (polynomial xs (a ⊖ b)) h)
