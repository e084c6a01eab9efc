-- Expanding in other words: "all conjugates above 1 in modulus" (document 01, "Ring and base"). The conjugates of β are the two
-- numbers whose sum is T and whose product is N.
use mathlib.Core.Path.{◌≡◌, refl, sym, ap, ◌∙◌}
use mathlib.Core.Logic.{◌↔◌}
use mathlib.Core.List.{[], ◌∷◌}
use Prim.Native.Nat.{ℕ, zero, suc, ◌+◌, ◌*◌, ◌<◌, ◌≤◌}
use native.Mathlib.Omega.{arith}
use native.Mathlib.Decide.{dec_lt}
use native.Mathlib.Nat.{mul-le-mul, mul-le-mul_right, mul-le-mul_left}
use lib.IntN.{ℤ, pos, nat_abs, ◌+ℤ◌, ◌*ℤ◌}
use Rattle.integers.proofs.Size.{nat_abs-*, square_size}
use Rattle.integers.proofs.Solver.{var, num, ◌⊕◌, ◌⊗◌, solve}
use Rattle.ring.specs.Base.{base_trace, base_norm, Expanding}

-- (ab + 1)² + a² + b² = (a + b)² + a²b² + 1, of sizes
sizes : (a b : ℤ) → nat_abs (a *ℤ b +ℤ pos 1) * nat_abs (a *ℤ b +ℤ pos 1) + (nat_abs a * nat_abs a + nat_abs b * nat_abs b) ≡ nat_abs (a +ℤ b) * nat_abs (a +ℤ b) + (nat_abs a * nat_abs a * (nat_abs b * nat_abs b) + 1)
sizes a b = ap nat_abs (left ∙ middle ∙ sym right)
  where
    left : pos (nat_abs (a *ℤ b +ℤ pos 1) * nat_abs (a *ℤ b +ℤ pos 1)) +ℤ (pos (nat_abs a * nat_abs a) +ℤ pos (nat_abs b * nat_abs b)) ≡ (a *ℤ b +ℤ pos 1) *ℤ (a *ℤ b +ℤ pos 1) +ℤ (a *ℤ a +ℤ b *ℤ b)
    left = λ i. square_size (a *ℤ b +ℤ pos 1) i +ℤ (square_size a i +ℤ square_size b i)

    middle : (a *ℤ b +ℤ pos 1) *ℤ (a *ℤ b +ℤ pos 1) +ℤ (a *ℤ a +ℤ b *ℤ b) ≡ (a +ℤ b) *ℤ (a +ℤ b) +ℤ (a *ℤ a *ℤ (b *ℤ b) +ℤ pos 1)
    middle =
        let A = var 0 in
        let B = var 1 in
        let M = A ⊗ B ⊕ num (pos 1) in
        solve (a ∷ b ∷ []) (M ⊗ M ⊕ (A ⊗ A ⊕ B ⊗ B)) ((A ⊕ B) ⊗ (A ⊕ B) ⊕ (A ⊗ A ⊗ (B ⊗ B) ⊕ num (pos 1))) refl

    right : pos (nat_abs (a +ℤ b) * nat_abs (a +ℤ b)) +ℤ (pos (nat_abs a * nat_abs a) *ℤ pos (nat_abs b * nat_abs b) +ℤ pos 1) ≡ (a +ℤ b) *ℤ (a +ℤ b) +ℤ (a *ℤ a *ℤ (b *ℤ b) +ℤ pos 1)
    right = λ i. square_size (a +ℤ b) i +ℤ (square_size a i *ℤ square_size b i +ℤ pos 1)

-- the same as numbers: A and B the conjugates' sizes, S that of their sum, M that of their product and one
module _ (S M : ℕ) where
  above_one : (A B : ℕ) → M * M + (A * A + B * B) ≡ S * S + (A * A * (B * B) + 1) → 2 ≤ A * B → S < M → 2 ≤ A
  above_one zero B e n t = omega arith
  above_one (suc zero) B e n t = omega (arith, mul-le-mul t t)
  above_one (suc (suc A)) B e n t = omega arith

  sum_below : (A B : ℕ) → M * M + (A * A + B * B) ≡ S * S + (A * A * (B * B) + 1) → 2 ≤ A → 2 ≤ B → S < M
  sum_below A B e h k =
      elim (dec_lt S M) [
        | yes l ↦ l
        | no l ↦ absurd (past (omega arith))
      ]
    where
      past : M ≤ S → ⊥
      past l = omega (arith, mul-le-mul l l, mul-le-mul h h, mul-le-mul k k, mul-le-mul_right (B * B) (mul-le-mul h h), mul-le-mul_left (A * A) (mul-le-mul k k))

module _ (s t u v : ℤ) where
  -- conjugates that are whole numbers: both are above 1 in size
  pub whole_conjugates : (a b : ℤ) → base_trace s u v ≡ a +ℤ b → base_norm s t u v ≡ a *ℤ b → Expanding s t u v ↔ ((2 ≤ nat_abs a) × (2 ≤ nat_abs b))
  whole_conjugates a b sum product = (to, from)
    where
      to : Expanding s t u v → (2 ≤ nat_abs a) × (2 ≤ nat_abs b)
      to e =
          let n : 2 ≤ nat_abs a * nat_abs b = rw (← nat_abs-* a b, ← product) e.norm in
          let l : nat_abs (a +ℤ b) < nat_abs (a *ℤ b +ℤ pos 1) = rw (← sum, ← product) e.trace in
          (above_one _ _ (nat_abs a) (nat_abs b) (sizes a b) n l, above_one _ _ (nat_abs b) (nat_abs a) (omega (arith, sizes a b)) (omega arith) l)

      from : (2 ≤ nat_abs a) × (2 ≤ nat_abs b) → Expanding s t u v
      from h =
          record {
            norm = rw (product, nat_abs-* a b) (omega (arith, mul-le-mul h.0 h.1));
            trace = rw (sum, product) (sum_below _ _ (nat_abs a) (nat_abs b) (sizes a b) h.0 h.1);
          }

  -- conjugates that aren't real: the square of their modulus is N
  pub complex_conjugates : (n : ℕ) → base_norm s t u v ≡ pos n → nat_abs (base_trace s u v) * nat_abs (base_trace s u v) < 4 * n → Expanding s t u v ↔ (2 ≤ n)
  complex_conjugates n norm below = (λ e. rw norm at e.norm, λ h. record { norm = rw norm h; trace = rw norm (small h (nat_abs (base_trace s u v)) below) })
    where
      small : 2 ≤ n → (T : ℕ) → T * T < 4 * n → T < n + 1
      small h T l =
          elim (dec_lt T (n + 1)) [
            | yes m ↦ m
            | no m ↦ absurd (past (omega arith))
          ]
        where
          past : n + 1 ≤ T → ⊥
          past m = omega (arith, mul-le-mul m m, mul-le-mul_right n h)
