-- Examples; no promise rests on them, so a reader may skip this file. Tables of degree three and four (document 02, job 8), by their words.
use Rattle.std.specs.Prelude.{List, [], ◌∷◌, map, ℕ, ◌/◌, ◌%◌, get_or, ℤ, pos, negsuc}
use Rattle.lists.specs.Span.{span}
use Rattle.ring.specs.Element.{plus}
use Rattle.ring.specs.Product.{scale}
use Rattle.carried.specs.Tables.{Leaf, sections, file_of}

-- multiples of an element
abbrev multiples : List ℤ → List ℤ → List (List ℤ)
multiples e numbers = map (λ k. scale k e) numbers

-- leaves whose weights are multiples of an element
abbrev weighted : List ℤ → List (List ℕ × ℤ) → List Leaf
weighted e leaves = map (λ leaf. (leaf.0, scale leaf.1 e)) leaves

abbrev one : ℤ
one = pos 1

abbrev none : ℤ
none = pos 0

abbrev minus_one : ℤ
minus_one = negsuc 0

abbrev minus_two : ℤ
minus_two = negsuc 1

-- the multiples that are digits where the base acts as ±3, and their sums
abbrev fives : List ℤ
fives = none ∷ one ∷ pos 2 ∷ minus_one ∷ minus_two ∷ []

abbrev nines : List ℤ
nines = none ∷ one ∷ pos 2 ∷ pos 3 ∷ pos 4 ∷ minus_one ∷ minus_two ∷ negsuc 2 ∷ negsuc 3 ∷ []

-- Degree three: ω³ = −1 and β = 2 − ω. With e = 1 − ω + ω² ω·e is −e, so that β·e is 3·e: digits and weights are multiples of e, words
-- have one digit.
abbrev cubic_unit : List ℤ
cubic_unit = one ∷ minus_one ∷ one ∷ []

-- by the base section: the parts of ω³, highest power first, then those of β
unfoldable pub cubic_with : List ℤ → List ℕ
cubic_with base =
    file_of
    (sections base (multiples cubic_unit fives) (multiples cubic_unit nines)
    (weighted cubic_unit
    ((0 ∷ [], none) ∷ (1 ∷ [], none) ∷ (2 ∷ [], one) ∷ (3 ∷ [], one) ∷ (4 ∷ [], one) ∷ (5 ∷ [], none) ∷ (6 ∷ [], minus_one) ∷ (7 ∷ [], minus_one) ∷ (8 ∷ [], minus_one) ∷ [])))

unfoldable pub cubic : List ℕ
cubic = cubic_with (none ∷ none ∷ minus_one ∷ pos 2 ∷ minus_one ∷ none ∷ [])

-- Degree four: ω⁴ = 1 and β = 3 − ω. With e = 1 + ω + ω² + ω³ ω·e is e, so that β·e is 2·e. The words after e and −e have two digits.
abbrev quartic_unit : List ℤ
quartic_unit = one ∷ one ∷ one ∷ one ∷ []

unfoldable pub quartic_with : List ℤ → List ℕ
quartic_with base =
    file_of
    (sections base (multiples quartic_unit (none ∷ one ∷ minus_one ∷ [])) (multiples quartic_unit (none ∷ one ∷ pos 2 ∷ minus_one ∷ minus_two ∷ []))
    (weighted quartic_unit
    ((0 ∷ [], none) ∷ (1 ∷ 0 ∷ [], none) ∷ (1 ∷ 1 ∷ [], one) ∷ (1 ∷ 2 ∷ [], one) ∷ (1 ∷ 3 ∷ [], none) ∷ (1 ∷ 4 ∷ [], none) ∷ (2 ∷ [], one)
    ∷ (3 ∷ 0 ∷ [], none) ∷ (3 ∷ 1 ∷ [], none) ∷ (3 ∷ 2 ∷ [], none) ∷ (3 ∷ 3 ∷ [], minus_one) ∷ (3 ∷ 4 ∷ [], minus_one) ∷ (4 ∷ [], minus_one) ∷ [])))

unfoldable pub quartic : List ℕ
quartic = quartic_with (none ∷ none ∷ none ∷ one ∷ pos 3 ∷ minus_one ∷ none ∷ none ∷ [])

-- Words of two digits: c(below) times one element plus c(own) times another is the weight, c being 1 from 2 up, −1 from −2 down, else 0.
abbrev carry : ℕ → ℤ
carry i = get_or (none ∷ none ∷ one ∷ one ∷ one ∷ none ∷ minus_one ∷ minus_one ∷ minus_one ∷ []) i none

abbrev root_file : List ℤ → List ℤ → List ℤ → List ℤ → List ℕ
root_file base e below own =
    file_of
    (sections base (multiples e fives) (multiples e nines)
    (span (λ k. (k / 9 ∷ k % 9 ∷ [], plus (scale (carry (k % 9)) below) (scale (carry (k / 9)) own))) 0 81))

-- Degree three: ω³ = ω² + 3·ω − 3 and β = ω. With e = ω − 1 ω²·e is 3·e; weights are multiples of e and ω·e.
unfoldable pub root : List ℕ
root = root_file (one ∷ pos 3 ∷ negsuc 2 ∷ none ∷ one ∷ none ∷ []) (minus_one ∷ one ∷ none ∷ []) (minus_one ∷ one ∷ none ∷ []) (none ∷ minus_one ∷ one ∷ [])

-- Degree four: ω⁴ = −4·ω² − 3 and β = ω. With e = 1 + ω² ω²·e is −3·e, so that the base is not real; weights are multiples of −e and −ω·e.
unfoldable pub complex_root : List ℕ
complex_root =
    root_file (none ∷ negsuc 3 ∷ none ∷ negsuc 2 ∷ none ∷ one ∷ none ∷ none ∷ []) (one ∷ none ∷ one ∷ none ∷ [])
    (minus_one ∷ none ∷ minus_one ∷ none ∷ []) (none ∷ minus_one ∷ none ∷ minus_one ∷ [])
