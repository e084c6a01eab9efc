-- Elements of the ring: the list of an element's parts, lowest power of ω first ("Ring and base" of document 01, for every
-- degree). The degree is the length of r, the parts of ω to the power of the degree; at degree two r is (t, s).
use Rattle.std.specs.Prelude.{List, [], ◌∷◌, map, ℕ, get_or, replicate, ℤ, pos, neg_ℤ, ◌+ℤ◌}

-- the part at a power of ω; zero past the last
abbrev pub part : List ℤ → ℕ → ℤ
part x k = get_or x k (pos 0)

abbrev pub zeros : ℕ → List ℤ
zeros d = replicate d (pos 0)

-- a missing part is zero
unfoldable pub plus : List ℤ → List ℤ → List ℤ
plus [] y = y
plus (a ∷ x) [] = a ∷ x
plus (a ∷ x) (b ∷ y) = (a +ℤ b) ∷ plus x y

unfoldable pub negative : List ℤ → List ℤ
negative x = map neg_ℤ x

unfoldable pub minus : List ℤ → List ℤ → List ℤ
minus x y = plus x (negative y)
