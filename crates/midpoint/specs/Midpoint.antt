-- The midpoint of two elements ("Value, midpoint, program" of document 01; "to the even neighbour" by job 6 of document 02).
use Rattle.std.specs.Prelude.{List, [], ◌∷◌, map, ℤ}
use Rattle.ring.specs.Element.{plus}
use Rattle.midpoint.specs.Halved.{halved}
use Rattle.midpoint.specs.declared.Element.{Element}

-- an element's parts, lowest power first: what contracts see of it
abbrev pub parts : Element → List ℤ
parts e = e.a ∷ e.b ∷ e.c ∷ e.d ∷ []

-- "halves the sum of each pair of parts"; what a half is stands in Half.antt
unfoldable pub midpoint_of : List ℤ → List ℤ → List ℤ
midpoint_of x y = map halved (plus x y)
