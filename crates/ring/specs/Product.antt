-- Pinned by rows_of_two (proofs/Base.antt: at degree two the matrix is document 01's rows), matrix_product and the laws of the ring
-- (proofs/Matrix.antt, proofs/Product.antt): a reader may skip this file. The product, and multiplication by the base as a matrix, for
-- every degree.
use Rattle.std.specs.Prelude.{List, [], ◌∷◌, map, ℕ, zero, suc, ◌-◌, length, take, ℤ, pos, ◌*ℤ◌}
use Rattle.lists.specs.Span.{span}
use Rattle.ring.specs.Element.{part, zeros, plus}

unfoldable pub scale : ℤ → List ℤ → List ℤ
scale k x = map (λ a. k *ℤ a) x

-- ω times an element: every part one power up, and what passes the top comes back as so many r
unfoldable pub times_omega : List ℤ → List ℤ → List ℤ
times_omega r x = plus (pos 0 ∷ take (length r - 1) x) (scale (part x (length r - 1)) r)

-- the product: part by part of the first factor, from its top power down
unfoldable pub product : List ℤ → List ℤ → List ℤ → List ℤ
product r [] y = zeros (length r)
product r (a ∷ x) y = plus (scale a y) (times_omega r (product r x y))

unfoldable pub unit : ℕ → List ℤ
unit d = pos 1 ∷ zeros (d - 1)

-- β, ω·β, ω²·β, ..
unfoldable pub columns : List ℤ → ℕ → List ℤ → List (List ℤ)
columns r zero β = []
columns r (suc n) β = β ∷ columns r n (times_omega r β)

-- the matrix of multiplication by β: column k is β times ω to the power k
unfoldable pub matrix_of : List ℤ → List ℤ → List (List ℤ)
matrix_of r β = span (λ i. map (λ column. part column i) (columns r (length r) β)) 0 (length r)
