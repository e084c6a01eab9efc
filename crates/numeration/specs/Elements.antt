-- The numeration system's group: elements of degree d as four parts, with multiplication by the base, given as its matrix.
use Rattle.std.specs.Prelude.{List, ℕ, ℤ}
use Rattle.ring.specs.Element.{zeros, plus, minus}
use Rattle.ring.specs.Padded.{width, padded_times}
use Rattle.numeration.specs.Group.{Operations}

unfoldable pub elements : ℕ → List (List ℤ) → Operations (List ℤ)
elements d matrix = record { none = zeros width; sum = plus; difference = minus; base = padded_times d matrix }
