-- The midpoint, part by part, and its laws, for elements of any degree.
use mathlib.Core.Path.{◌≡◌, refl, sym, ap, subst, ◌∙◌}
use mathlib.Core.List.{List, [], ◌∷◌, map}
use Prim.Native.Nat.{ℕ}
use lib.ListN.{get_or-map}
use lib.IntN.{ℤ, pos, ◌+ℤ◌}
use Rattle.lists.proofs.Cons.{cons≡}
use Rattle.ring.specs.Element.{part, plus, negative}
use Rattle.ring.proofs.Element.{part_plus, plus_comm, negative_sum}
use Rattle.midpoint.specs.Half.{HalfToEven}
use Rattle.midpoint.specs.Halved.{halved}
use Rattle.midpoint.specs.Midpoint.{parts, midpoint_of}
use Rattle.midpoint.specs.declared.Element.{Element}
use Rattle.midpoint.proofs.Halves.{to_even, halved_twice, halved_neg}

-- an element is known by its parts
pub known_by_parts : (x y : Element) → parts x ≡ parts y → x ≡ y
known_by_parts x y h = λ i. record { a = part (h i) 0; b = part (h i) 1; c = part (h i) 2; d = part (h i) 3 }

-- each part is the half of the sum of the two parts; a missing part is zero
pub part_midpoint : (x y : List ℤ) (k : ℕ) → part (midpoint_of x y) k ≡ halved (part x k +ℤ part y k)
unfolding midpoint_of halved
part_midpoint x y k = get_or-map halved (plus x y) k (pos 0) ∙ ap halved (part_plus x y k)

-- twice each part differs from the sum of the two parts by at most 1, and where it differs the part is even
pub part_to_even : (x y : List ℤ) (k : ℕ) → HalfToEven (part x k +ℤ part y k) (part (midpoint_of x y) k)
part_to_even x y k = subst (HalfToEven (part x k +ℤ part y k)) (sym (part_midpoint x y k)) (to_even (part x k +ℤ part y k))

pub midpoint_comm : (x y : List ℤ) → midpoint_of x y ≡ midpoint_of y x
unfolding midpoint_of
midpoint_comm x y = ap (map halved) (plus_comm x y)

pub midpoint_same : (x : List ℤ) → midpoint_of x x ≡ x
unfolding midpoint_of plus
midpoint_same [] = refl
midpoint_same (a ∷ x) = cons≡ (halved_twice a) (midpoint_same x)

map_negative : (x : List ℤ) → map halved (negative x) ≡ negative (map halved x)
unfolding negative
map_negative [] = refl
map_negative (a ∷ x) = cons≡ (halved_neg a) (map_negative x)

-- for all whole numbers, so for 32-bit parts wherever −x and −y are there: where no part is −2,147,483,648
pub midpoint_negative : (x y : List ℤ) → midpoint_of (negative x) (negative y) ≡ negative (midpoint_of x y)
unfolding midpoint_of
midpoint_negative x y = ap (map halved) (negative_sum x y) ∙ map_negative (plus x y)
