-- Pinned by determinant_of_three and the laws beside it (proofs/Determinant.antt): a reader may skip this file. The determinant of any
-- number of rows.
use Rattle.std.specs.Prelude.{List, [], ◌∷◌, ◌++◌, map, ℕ, zero, suc, take, drop, ℤ, pos, ◌+ℤ◌, ◌-ℤ◌, ◌*ℤ◌}
use Rattle.lists.specs.Span.{span}
use Rattle.ring.specs.Element.{part}

-- the sum of the diagonal
unfoldable pub trace : List (List ℤ) → ℤ
trace m = from 0 m
  where
    from : ℕ → List (List ℤ) → ℤ
    from i [] = pos 0
    from i (row ∷ rows) = part row i +ℤ from (suc i) rows

-- a − b + c − ..
unfoldable pub alternating : List ℤ → ℤ
alternating [] = pos 0
alternating (a ∷ x) = a -ℤ alternating x

unfoldable pub without : ℕ → List ℤ → List ℤ
without j row = take j row ++ drop (suc j) row

-- the determinant of n rows, by the entries of the first row and the rows below without that entry's column
unfoldable pub determinant : ℕ → List (List ℤ) → ℤ
determinant zero m = pos 1
determinant (suc n) [] = pos 0
determinant (suc n) (row ∷ rows) =
    alternating (span (λ j. part row j *ℤ determinant n (map (without j) rows)) 0 (suc n))

-- of two rows, by their columns p and q
abbrev pub minor : List ℤ → List ℤ → ℕ → ℕ → ℤ
minor x y p q = part x p *ℤ part y q -ℤ part x q *ℤ part y p
