-- The value of a row of elements, lowest place first.
use Rattle.std.specs.Prelude.{List, [], ◌∷◌, ℕ, zero, suc}
use Rattle.numeration.specs.Group.{Operations}

module _ {A : Type 0} (o : Operations A) where
  -- β to the power j, times an element
  unfoldable pub power : ℕ → A → A
  power zero x = x
  power (suc j) x = o.base (power j x)

  -- the sum of the digits, each times β to the power of its place, where the first stands at place j
  unfoldable pub value_from : ℕ → List A → A
  value_from j [] = o.none
  value_from j (x ∷ xs) = o.sum (power j x) (value_from (suc j) xs)

  -- "the sum of its digits, each times β to the power of its place"
  unfoldable pub value : List A → A
  value xs = value_from 0 xs

  -- "starting from zero and from the top place down, base times total plus digit"
  unfoldable pub top_down : List A → A
  top_down [] = o.none
  top_down (x ∷ xs) = o.sum (o.base (top_down xs)) x
