-- Conversion of a row of input digits: windows, weights and the digits that come out.
use Rattle.std.specs.Prelude.{List, ℕ, zero, suc, get_or}
use Rattle.numeration.specs.Group.{Operations}
use Rattle.numeration.specs.Code.{Code}
use Rattle.numeration.specs.LeafOf.{leaf_of}

-- w(j−1), w(j−2), ..: the row's input indexes read downward from below place j, zeros outside the row
unfoldable pub window : List ℕ → ℕ → ℕ → ℕ
window row zero k = 0
window row (suc j) zero = get_or row j 0
window row (suc j) (suc k) = window row j k

-- an input digit, plus the weight from below, minus the base times the own weight
unfoldable pub out_digit : {A : Type 0} → Operations A → A → A → A → A
out_digit o input below own = o.difference (o.sum input below) (o.base own)

module _ {A : Type 0} (c : Code A) where
  -- the leaf that is looked up at place j − 1: its word begins w(j−1), w(j−2), ..; at place −1 that of the window of zeros
  abbrev pub leaf_into : List ℕ → ℕ → ℕ
  leaf_into row j = leaf_of c (window row j)

  -- q(j−1): the weight that place j gets from below
  unfoldable pub weight_into : List ℕ → ℕ → A
  weight_into row j = c.weight (leaf_into row j)

  -- q(j)
  unfoldable pub weight_at : List ℕ → ℕ → A
  weight_at row j = weight_into row (suc j)

module _ {A : Type 0} (o : Operations A) (input : ℕ → A) (c : Code A) where
  -- z(j) = w(j) + q(j−1) − β·q(j)
  unfoldable pub convert : List ℕ → ℕ → A
  convert row j = out_digit o (input (get_or row j 0)) (weight_into c row j) (weight_at c row j)
