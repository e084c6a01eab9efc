-- Degree two: the matrix is document 01's rows, T and N are its trace and determinant; the tests say what they test.
use mathlib.Core.Path.{◌≡◌, refl, ap}
use mathlib.Core.Bool.{true, false, or-true}
use mathlib.Core.Logic.{⊎_elim, ◌↔◌}
use mathlib.Core.List.{[], ◌∷◌}
use Prim.Native.Nat.{ℕ, zero, suc, ◌*◌, ◌≤◌, ◌<◌, zero-le}
use native.Mathlib.Omega.{arith}
use native.Mathlib.Decide.{ℕ_discrete}
use native.Mathlib.Nat.{not-suc-le-zero, suc-mul}
use lib.Dec.{eqb}
use lib.Signed.{lt_z}
use borrow.Author.Tests.{leb-true, ltb-true, le-leb, lt-ltb, eqb-true, eq-eqb}
use lib.IntN.{ℤ, pos, negsuc, nat_abs, ◌+ℤ◌, ◌*ℤ◌, +ℤ_idl, *ℤ_comm, pos-ne-negsuc}
use Rattle.lists.specs.Span.{span}
use Rattle.lists.proofs.Test.{both, either, clash}
use Rattle.integers.proofs.Solver.{Expression, var, num, ◌⊕◌, ◌⊖◌, ◌⊗◌, solve}
use Rattle.ring.specs.Element.{plus}
use Rattle.ring.specs.Product.{scale, times_omega, columns, matrix_of}
use Rattle.ring.specs.Determinant.{trace, alternating, without, determinant}
use Rattle.ring.specs.Base.{base_trace, base_norm, Expanding, Square}
use Rattle.ring.specs.Tests.{expanding, square_below, perfect_square}

-- ---- the matrix

-- "two rows of two whole numbers, (u, t·v) and (v, u + s·v)"
pub rows_of_two : (s t u v : ℤ) → matrix_of (t ∷ s ∷ []) (u ∷ v ∷ []) ≡ (u ∷ (t *ℤ v) ∷ []) ∷ (v ∷ (u +ℤ s *ℤ v) ∷ []) ∷ []
unfolding matrix_of columns times_omega plus scale span
rows_of_two s t u v =
    simp (+ℤ_idl, *ℤ_comm)

-- s, t, u and v as the solver's variables
s₁ : Expression
s₁ = var 0

t₁ : Expression
t₁ = var 1

u₁ : Expression
u₁ = var 2

v₁ : Expression
v₁ = var 3

pub trace_of_two : (s t u v : ℤ) → trace (matrix_of (t ∷ s ∷ []) (u ∷ v ∷ [])) ≡ base_trace s u v
unfolding trace base_trace s₁ u₁ v₁
trace_of_two s t u v =
    rw (rows_of_two s t u v) (solve (s ∷ t ∷ u ∷ v ∷ []) (u₁ ⊕ (u₁ ⊕ s₁ ⊗ v₁ ⊕ num (pos 0))) (num (pos 2) ⊗ u₁ ⊕ s₁ ⊗ v₁) refl)

pub norm_of_two : (s t u v : ℤ) → determinant 2 (matrix_of (t ∷ s ∷ []) (u ∷ v ∷ [])) ≡ base_norm s t u v
unfolding determinant base_norm alternating without span s₁ t₁ u₁ v₁
norm_of_two s t u v =
    let I = num (pos 1) in
    let O = num (pos 0) in
    rw (rows_of_two s t u v) (solve (s ∷ t ∷ u ∷ v ∷ []) (u₁ ⊗ ((u₁ ⊕ s₁ ⊗ v₁) ⊗ I ⊖ O) ⊖ (t₁ ⊗ v₁ ⊗ (v₁ ⊗ I ⊖ O) ⊖ O)) (u₁ ⊗ u₁ ⊕ s₁ ⊗ u₁ ⊗ v₁ ⊖ t₁ ⊗ v₁ ⊗ v₁) refl)

-- ---- the tests

-- the test passes exactly when the base is expanding
pub expanding_test : (s t u v : ℤ) → expanding s t u v ≡ true ↔ Expanding s t u v
unfolding expanding
expanding_test s t u v = (to, from)
  where
    to : expanding s t u v ≡ true → Expanding s t u v
    to h = let b = both _ _ h in record { norm = leb-true _ _ b.0; trace = ltb-true _ _ b.1 }

    from : Expanding s t u v → expanding s t u v ≡ true
    from e = rw (le-leb _ _ e.norm, lt-ltb _ _ e.trace)

-- some root below k
root_of : (k n : ℕ) → square_below k n ≡ true → (j : ℕ) × (j * j ≡ n)
unfolding square_below
root_of zero n h = clash h refl
root_of (suc k) n h = ⊎_elim (λ e. (k, eqb-true _ _ e)) (root_of k n) (either _ _ h)

root_below : (k n j : ℕ) → j < k → j * j ≡ n → square_below k n ≡ true
unfolding square_below
root_below zero n j h e = absurd (not-suc-le-zero h)
root_below (suc k) n j h e =
    elim (ℕ_discrete j k) [
      | yes p ↦ rw (eq-eqb (k * k) n (rw p at e))
      | no p ↦ rw (root_below k n j (omega arith) e) (or-true (eqb (k * k) n))
    ]

pub self_square : (k : ℕ) → k ≤ k * k
self_square zero = zero-le
self_square (suc k) = rw (suc-mul k (suc k)) (omega arith)

-- the test passes exactly at a square
pub square_test : (z : ℤ) → perfect_square z ≡ true ↔ Square z
unfolding perfect_square Square
square_test (pos n) = (λ h. let r = root_of (suc n) n h in (r.0, ap pos r.1), λ q. root_below (suc n) n q.0 (omega (arith, self_square q.0, ap nat_abs q.1)) (ap nat_abs q.1))
square_test (negsuc n) = (λ h. clash h refl, λ q. absurd (pos-ne-negsuc _ n q.1))

pub square_below_zero : (z : ℤ) → lt_z z (pos 0) ≡ true → perfect_square z ≡ false
unfolding perfect_square
square_below_zero (pos n) h = absurd (not-suc-le-zero (ltb-true n 0 h))
square_below_zero (negsuc n) h = refl
