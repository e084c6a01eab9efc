-- Signed machine arithmetic. Every value that is read, passed or returned appears as it is read back from its bits,
-- `to_z w (of_z w z)`. A term says how a value was computed, with a bound on each number that it starts from; where the
-- bounds, carried up, stay inside the width, which is computed, each step fits and the value is the plain one.
use mathlib.Core.Path.{◌≡◌, refl, ap, ap₂, ◌∙◌}
use mathlib.Core.Bool.{Bool, true, ◌&&◌}
use Prim.Native.Nat.{ℕ, ◌+◌, ◌*◌, ◌^◌, ◌≤◌, ◌<◌}
use native.Mathlib.Omega.{arith}
use lib.Dec.{ltb}
use lib.IntN.{ℤ, nat_abs, ◌+ℤ◌, ◌-ℤ◌, ◌*ℤ◌}
use borrow.Author.Tests.{ltb-true}
use mir.Syntax.{Width}
use mir.Val.{SFits, hbits, to_z, of_z}
use mir.ValLaws.{to_z-of_z}
use Rattle.lists.proofs.Test.{both}
use Rattle.integers.proofs.Size.{nat_abs-+, nat_abs_minus, nat_abs-*≤, small_fits}

pub data Operator : Type 0 where
  adding : Operator
  subtracting : Operator
  multiplying : Operator

abbrev pub result : Operator → ℤ → ℤ → ℤ
result adding x y = x +ℤ y
result subtracting x y = x -ℤ y
result multiplying x y = x *ℤ y

abbrev pub limit : Operator → ℕ → ℕ → ℕ
limit adding m n = m + n
limit subtracting m n = m + n
limit multiplying m n = m * n

limits : (o : Operator) (x y : ℤ) (m n : ℕ) → nat_abs x ≤ m → nat_abs y ≤ n → nat_abs (result o x y) ≤ limit o m n
limits adding x y m n h k = omega (arith, nat_abs-+ x y)
limits subtracting x y m n h k = omega (arith, nat_abs_minus x y)
limits multiplying x y m n h k = nat_abs-*≤ x y m n h k

-- a number with a bound on its size, or an operation on two terms
pub data Term : Type 0 where
  leaf : (z : ℤ) (n : ℕ) → nat_abs z ≤ n → Term
  node : Operator → Term → Term → Term

infixl 6 ◌⊕◌ ◌⊖◌
infixl 7 ◌⊗◌
abbrev pub ◌⊕◌ : Term → Term → Term
a ⊕ b = node adding a b

abbrev pub ◌⊖◌ : Term → Term → Term
a ⊖ b = node subtracting a b

abbrev pub ◌⊗◌ : Term → Term → Term
a ⊗ b = node multiplying a b

abbrev pub plain : Term → ℤ
plain (leaf z n h) = z
plain (node o a b) = result o (plain a) (plain b)

abbrev pub bound : Term → ℕ
bound (leaf z n h) = n
bound (node o a b) = limit o (bound a) (bound b)

pub plain_bound : (t : Term) → nat_abs (plain t) ≤ bound t
plain_bound (leaf z n h) = h
plain_bound (node o a b) = limits o (plain a) (plain b) (bound a) (bound b) (plain_bound a) (plain_bound b)

module _ (w : Width) where
  -- the number computed from its operands as they are stored
  abbrev pub computed : Term → ℤ
  computed (leaf z n h) = z
  computed (node o a b) = result o (to_z w (of_z w (computed a))) (to_z w (of_z w (computed b)))

  abbrev pub stored : Term → ℤ
  stored t = to_z w (of_z w (computed t))

  abbrev pub inside : Term → Bool
  inside t = ltb (bound t) (2 ^ hbits w)

  -- every bound on the way is inside the width
  abbrev pub fitting : Term → Bool
  fitting (leaf z n h) = inside (leaf z n h)
  fitting (node o a b) = inside (node o a b) && (fitting a && fitting b)

  fitting_inside : (t : Term) → fitting t ≡ true → inside t ≡ true
  fitting_inside (leaf z n h) f = f
  fitting_inside (node o a b) f = (both (inside (node o a b)) (fitting a && fitting b) f).0

  plain_below : (t : Term) → fitting t ≡ true → nat_abs (plain t) < 2 ^ hbits w
  plain_below t f = omega (arith, plain_bound t, ltb-true (bound t) (2 ^ hbits w) (fitting_inside t f))

  pub plain_fits : (t : Term) → fitting t ≡ true → SFits w (plain t)
  plain_fits t f = small_fits w (plain t) (plain_below t f)

  read_back : (t : Term) → fitting t ≡ true → computed t ≡ plain t → stored t ≡ plain t
  read_back t f e = ap (λ z. to_z w (of_z w z)) e ∙ to_z-of_z w (plain t) (plain_fits t f)

  pub computed_is : (t : Term) → fitting t ≡ true → computed t ≡ plain t
  computed_is (leaf z n h) f = refl
  computed_is (node o a b) f =
      let g = both (fitting a) (fitting b) (both (inside (node o a b)) (fitting a && fitting b) f).1 in
      ap₂ (result o) (read_back a g.0 (computed_is a g.0)) (read_back b g.1 (computed_is b g.1))

  -- for a need that a value fits, and for what is returned
  pub computed_fits : (t : Term) → fitting t ≡ true → SFits w (computed t)
  computed_fits t f = rw (computed_is t f) (plain_fits t f)

  pub stored_is : (t : Term) → fitting t ≡ true → stored t ≡ plain t
  stored_is t f = read_back t f (computed_is t f)

  pub stored_below : (t : Term) → fitting t ≡ true → nat_abs (stored t) < 2 ^ hbits w
  stored_below t f = rw (stored_is t f) (plain_below t f)

  pub stored_bound : (t : Term) → fitting t ≡ true → nat_abs (stored t) ≤ bound t
  stored_bound t f = rw (stored_is t f) (plain_bound t)
