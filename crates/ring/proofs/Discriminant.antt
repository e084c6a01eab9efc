-- Rule 5 in other words: s² + 4t is a square exactly where x² = s·x + t has a whole root, so that ω is no whole number.
use mathlib.Core.Path.{◌≡◌, refl, sym, ap, ◌∙◌}
use mathlib.Core.Logic.{◌⊎◌, inl, inr, ◌↔◌}
use mathlib.Core.List.{[], ◌∷◌}
use Prim.Native.Nat.{ℕ, ◌*◌}
use native.Mathlib.Omega.{arith}
use lib.IntN.{ℤ, pos, negsuc, nat_abs, ◌+ℤ◌, ◌-ℤ◌, ◌*ℤ◌, -ℤ-+ℤ_cancel, +ℤ_invr}
use Rattle.integers.proofs.Laws.{ -zero→≡}
use Rattle.integers.proofs.Size.{nat_abs-*, no_size, square_size}
use Rattle.integers.proofs.Half.{half, twice_half}
use Rattle.integers.proofs.Solver.{Expression, var, num, ◌⊕◌, ◌⊖◌, ◌⊗◌, meaning, solve}
use Rattle.ring.specs.Base.{discriminant, Square}

-- a product by 4 that is zero, and one by 2 that is −1
four_zero : (z : ℤ) → pos 4 *ℤ z ≡ pos 0 → z ≡ pos 0
four_zero z h = no_size z (omega (arith, nat_abs-* (pos 4) z, ap nat_abs h))

twice_odd : (z : ℤ) → pos 2 *ℤ z ≡ negsuc 0 → ⊥
twice_odd z h = omega (arith, nat_abs-* (pos 2) z, ap nat_abs h)

equal_less : (a b : ℤ) → a ≡ b → a -ℤ b ≡ pos 0
equal_less a b e = ap (λ x. x -ℤ b) e ∙ +ℤ_invr b

-- the solver's variables: a number, s and t
X : Expression
X = var 0

S : Expression
S = var 1

T : Expression
T = var 2

module _ (s t : ℤ) where
  abbrev Root : ℤ → Type 0
  Root r = r *ℤ r ≡ s *ℤ r +ℤ t

  -- a root r: 2r − s is a root of s² + 4t
  from_root : (r : ℤ) → Root r → (pos 2 *ℤ r -ℤ s) *ℤ (pos 2 *ℤ r -ℤ s) ≡ discriminant s t
  unfolding discriminant X S T
  from_root r e =
      let D = num (pos 2) ⊗ X ⊖ S in
      solve (r ∷ s ∷ t ∷ []) (D ⊗ D) (S ⊗ S ⊕ num (pos 4) ⊗ (X ⊗ X ⊖ S ⊗ X)) refl
      ∙ ap (λ z. s *ℤ s +ℤ pos 4 *ℤ (z -ℤ s *ℤ r)) e
      ∙ solve (r ∷ s ∷ t ∷ []) (S ⊗ S ⊕ num (pos 4) ⊗ (S ⊗ X ⊕ T ⊖ S ⊗ X)) (S ⊗ S ⊕ num (pos 4) ⊗ T) refl

  -- a root of s² + 4t that is s and an even number 2h: s + h is a root
  even : (h : ℤ) → (h +ℤ h +ℤ s) *ℤ (h +ℤ h +ℤ s) ≡ discriminant s t → Root (s +ℤ h)
  unfolding discriminant X S T
  even h e =
      let K = X ⊕ X ⊕ S in
      let R = S ⊕ X in
      let less = solve (h ∷ s ∷ t ∷ []) (num (pos 4) ⊗ (R ⊗ R ⊖ (S ⊗ R ⊕ T))) (K ⊗ K ⊖ (S ⊗ S ⊕ num (pos 4) ⊗ T)) refl ∙ equal_less _ _ e in
      -zero→≡ _ _ (four_zero _ less)

  -- none is s and an odd number
  odd : (h : ℤ) → (h +ℤ h +ℤ pos 1 +ℤ s) *ℤ (h +ℤ h +ℤ pos 1 +ℤ s) ≡ discriminant s t → ⊥
  unfolding discriminant X S T
  odd h e =
      let K = X ⊕ X ⊕ num (pos 1) ⊕ S in
      let D = S ⊗ S ⊕ num (pos 4) ⊗ T in
      let M = num (pos 2) ⊗ X ⊗ X ⊕ num (pos 2) ⊗ X ⊕ num (pos 2) ⊗ X ⊗ S ⊕ S ⊖ num (pos 2) ⊗ T in
      twice_odd (meaning (h ∷ s ∷ t ∷ []) M) (solve (h ∷ s ∷ t ∷ []) (num (pos 2) ⊗ M) (K ⊗ K ⊖ D ⊖ num (pos 1)) refl ∙ ap (λ x. x -ℤ pos 1) (equal_less _ _ e))

  to_root : (k : ℕ) → pos (k * k) ≡ discriminant s t → (r : ℤ) × Root r
  to_root k e = go (half (pos k -ℤ s)) (twice_half (pos k -ℤ s))
    where
      moved : (z : ℤ) → pos k -ℤ s ≡ z → (z +ℤ s) *ℤ (z +ℤ s) ≡ discriminant s t
      moved z is = ap (λ x. x *ℤ x) (ap (λ x. x +ℤ s) (sym is) ∙ -ℤ-+ℤ_cancel (pos k) s) ∙ e

      go : (h : ℤ) → (pos k -ℤ s ≡ h +ℤ h) ⊎ (pos k -ℤ s ≡ h +ℤ h +ℤ pos 1) → (r : ℤ) × Root r
      go h (inl is) = (s +ℤ h, even h (moved _ is))
      go h (inr is) = absurd (odd h (moved _ is))

-- s² + 4t is a square exactly where x² = s·x + t has a whole root
pub square_root : (s t : ℤ) → Square (discriminant s t) ↔ ((r : ℤ) × (r *ℤ r ≡ s *ℤ r +ℤ t))
unfolding Square
square_root s t = (λ q. to_root s t q.0 q.1, λ w. let d = pos 2 *ℤ w.0 -ℤ s in (nat_abs d, square_size d ∙ from_root s t w.0 w.1))
