-- Multiplication by the base as rows of whole numbers ("Ring and base" of document 01, for every degree).
use Rattle.std.specs.Prelude.{List, [], ◌∷◌, map, ℤ, pos, ◌+ℤ◌, ◌*ℤ◌}

unfoldable pub dot : List ℤ → List ℤ → ℤ
dot [] x = pos 0
dot (a ∷ r) [] = pos 0
dot (a ∷ r) (b ∷ x) = (a *ℤ b) +ℤ dot r x

-- matrix times element, a row for each part
unfoldable pub times : List (List ℤ) → List ℤ → List ℤ
times m x = map (λ row. dot row x) m
