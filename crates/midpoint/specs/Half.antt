-- "Halves go to the even neighbour" (document 02, job 6).
use Rattle.std.specs.Prelude.{◌≡◌, ◌≤◌, ℤ, nat_abs, ◌+ℤ◌, ◌-ℤ◌}

abbrev pub Even : ℤ → Type 0
Even r = (k : ℤ) × (r ≡ k +ℤ k)

-- r is half of z: twice r differs from z by at most 1, and where it differs r is even
pub record HalfToEven (z r : ℤ) : Type 0 where
  pub near : nat_abs (r +ℤ r -ℤ z) ≤ 1
  pub even : ¬ (r +ℤ r ≡ z) → Even r
