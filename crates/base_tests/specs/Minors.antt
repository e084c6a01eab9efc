-- For helpers' contracts only: two rows of the base's matrix by each two columns.
use Rattle.std.specs.Prelude.{List, [], ◌∷◌, ℕ, ℤ, ◌+ℤ◌, ◌-ℤ◌, ◌*ℤ◌}
use Rattle.ring.specs.Element.{part}
use Rattle.ring.specs.Determinant.{minor}

-- by columns 0 and 1, 0 and 2, 0 and 3, 1 and 2, 1 and 3, 2 and 3
unfoldable pub minors : List ℤ → List ℤ → List ℤ
minors x y = minor x y 0 1 ∷ minor x y 0 2 ∷ minor x y 0 3 ∷ minor x y 1 2 ∷ minor x y 1 3 ∷ minor x y 2 3 ∷ []

-- the limits of two rows' minors
abbrev pub minor_limits : List ℕ
minor_limits = 532480 ∷ 34611200 ∷ 147197952 ∷ 2249728000 ∷ 9567866880 ∷ 621911347200 ∷ []

-- of three rows: the upper two's minors with the last row's entries
abbrev pub with_last : List ℤ → List ℤ → ℤ
with_last upper last = part upper 0 *ℤ part last 2 -ℤ part upper 1 *ℤ part last 1 +ℤ part upper 3 *ℤ part last 0

-- of four rows: the upper two's minors with the lower two's by the other columns
abbrev pub with_lower : List ℤ → List ℤ → ℤ
with_lower upper lower =
    part upper 0 *ℤ part lower 5 -ℤ part upper 1 *ℤ part lower 4 +ℤ part upper 2 *ℤ part lower 3 +ℤ part upper 3 *ℤ part lower 2 -ℤ part upper 4 *ℤ part lower 1 +ℤ part upper 5 *ℤ part lower 0
