-- A list given by a function of the place.
use Rattle.std.specs.Prelude.{List, [], ◌∷◌, ℕ, zero, suc}

module _ {A : Type 0} where
  -- f at the n places from i on
  unfoldable pub span : (ℕ → A) → ℕ → ℕ → List A
  span f i zero = []
  span f i (suc n) = f i ∷ span f (suc i) n
