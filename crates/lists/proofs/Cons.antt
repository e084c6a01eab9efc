-- Two lists with equal heads and equal tails.
use mathlib.Core.Path.{◌≡◌, ap₂}
use mathlib.Core.List.{List, ◌∷◌}

pub cons≡ {ℓ} : {A : Type ℓ} {a b : A} {x y : List A} → a ≡ b → x ≡ y → a ∷ x ≡ b ∷ y
cons≡ {A = A} p q = ap₂ (λ (c : A) (z : List A). c ∷ z) p q
