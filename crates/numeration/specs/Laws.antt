-- For the laws only: what they ask of the operations, and of input digits and weights; rows of digits and pairs of leaves.
use Rattle.std.specs.Prelude.{◌≡◌, List, ℕ, ◌+◌, ◌<◌, ℤ, length, get_or}
use Rattle.lists.specs.Span.{span}
use Rattle.numeration.specs.Group.{Operations}
use Rattle.numeration.specs.Code.{Code}
use Rattle.numeration.specs.LeafOf.{depth}
use Rattle.numeration.specs.Conversion.{convert}
use Rattle.numeration.specs.Pairs.{Fits, pair_digit}

-- an element of degree d has d parts
abbrev pub HasParts : ℕ → List ℤ → Type 0
HasParts d x = length x ≡ d

-- every entry of a list is an element
abbrev pub Elements : {A : Type 0} → Operations A → (A → Type 0) → List A → Type 0
Elements o Element xs = (k : ℕ) → Element (get_or xs k o.none)

-- the laws, for the values of A that are elements
pub record AdditiveGroup {A : Type 0} (o : Operations A) (Element : A → Type 0) : Type 0 where
  pub element_none : Element o.none
  pub element_sum : {x y : A} → Element x → Element y → Element (o.sum x y)
  pub element_difference : {x y : A} → Element x → Element y → Element (o.difference x y)
  pub element_base : {x : A} → Element x → Element (o.base x)
  pub assoc : {x y z : A} → Element x → Element y → Element z → o.sum (o.sum x y) z ≡ o.sum x (o.sum y z)
  pub comm : {x y : A} → Element x → Element y → o.sum x y ≡ o.sum y x
  pub unit : {x : A} → Element x → o.sum o.none x ≡ x
  pub cancel : {x y : A} → Element x → Element y → o.sum (o.difference x y) y ≡ x
  pub additive : {x y : A} → Element x → Element y → o.base (o.sum x y) ≡ o.sum (o.base x) (o.base y)

-- a map of elements that keeps sum, difference and the base times an element, as negation does
pub record Endomorphism {A : Type 0} (o : Operations A) (Element : A → Type 0) (f : A → A) : Type 0 where
  pub element : {x : A} → Element x → Element (f x)
  pub keeps_sum : {x y : A} → Element x → Element y → f (o.sum x y) ≡ o.sum (f x) (f y)
  pub keeps_difference : {x y : A} → Element x → Element y → f (o.difference x y) ≡ o.difference (f x) (f y)
  pub keeps_base : {x : A} → Element x → f (o.base x) ≡ o.base (f x)

-- input digits and weights are elements; input index 0 and leaf 0's weight are zero
pub record InGroup {A : Type 0} (o : Operations A) (Element : A → Type 0) (input : ℕ → A) (c : Code A) : Type 0 where
  pub element_input : (i : ℕ) → Element (input i)
  pub element_weight : (k : ℕ) → Element (c.weight k)
  pub input_zero : input 0 ≡ o.none
  pub weight_zero : c.weight 0 ≡ o.none

module _ {A : Type 0} (o : Operations A) (input : ℕ → A) (c : Code A) where
  -- the digits z(j) for j from 0 to n + h − 1
  unfoldable pub convert_row : List ℕ → List A
  convert_row row = span (convert o input c row) 0 (length row + depth c)

  -- every fitting pair gives an alphabet digit
  abbrev pub PairsConvert : (A → Type 0) → Type 0
  PairsConvert Alphabet = (u l : ℕ) → u < c.leaves → l < c.leaves → Fits c u l → Alphabet (pair_digit o input c u l)
