-- Elements of every degree as four parts, those above the degree zero, and multiplication by the base on them (document 02, job 8).
use Rattle.std.specs.Prelude.{List, [], map, ℕ, get_or, take, ℤ}
use Rattle.lists.specs.Span.{span}
use Rattle.ring.specs.Element.{part}
use Rattle.ring.specs.Matrix.{times}
use Rattle.ring.specs.Product.{matrix_of}

abbrev pub width : ℕ
width = 4

-- the first four parts, a missing one being zero
unfoldable pub padded : List ℤ → List ℤ
padded x = span (part x) 0 width

-- four rows of four
unfoldable pub padded_rows : List (List ℤ) → List (List ℤ)
padded_rows m = span (λ i. padded (get_or m i [])) 0 width

-- the first d rows and columns
unfoldable pub corner : ℕ → List (List ℤ) → List (List ℤ)
corner d m = map (take d) (take d m)

-- the first d rows and columns times an element
unfoldable pub padded_times : ℕ → List (List ℤ) → List ℤ → List ℤ
padded_times d m x = padded (times (corner d m) x)

-- multiplication by β in the ring of r
unfoldable pub padded_matrix : List ℤ → List ℤ → List (List ℤ)
padded_matrix r β = padded_rows (matrix_of r β)
