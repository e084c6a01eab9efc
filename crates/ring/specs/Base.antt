-- The base β = u + v·ω of degree two, where ω² = s·ω + t ("Ring and base" of document 01).
use Rattle.std.specs.Prelude.{◌≡◌, ℕ, ◌*◌, ◌<◌, ◌≤◌, ℤ, pos, nat_abs, ◌+ℤ◌, ◌-ℤ◌, ◌*ℤ◌}

-- T = 2u + s·v
unfoldable pub base_trace : ℤ → ℤ → ℤ → ℤ
base_trace s u v = pos 2 *ℤ u +ℤ s *ℤ v

-- N = u² + s·u·v − t·v²
unfoldable pub base_norm : ℤ → ℤ → ℤ → ℤ → ℤ
base_norm s t u v = u *ℤ u +ℤ s *ℤ u *ℤ v -ℤ t *ℤ v *ℤ v

-- The base is expanding: |N| ≥ 2 and |T| < |N + 1|
pub record Expanding (s t u v : ℤ) : Type 0 where
  pub norm : 2 ≤ nat_abs (base_norm s t u v)
  pub trace : nat_abs (base_trace s u v) < nat_abs (base_norm s t u v +ℤ pos 1)

-- s² + 4t
unfoldable pub discriminant : ℤ → ℤ → ℤ
discriminant s t = s *ℤ s +ℤ pos 4 *ℤ t

-- z is the square of a whole number, 0 included
unfoldable pub Square : ℤ → Type 0
Square z = (k : ℕ) × (pos (k * k) ≡ z)
