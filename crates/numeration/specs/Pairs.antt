-- Fitting pairs of leaves, an upper u and a lower l, and the digit that such a pair gives.
use Rattle.std.specs.Prelude.{◌≡◌, List, ℕ, suc, ◌<◌, min, pred, length}
use Rattle.lists.specs.Once.{EachOnce}
use Rattle.numeration.specs.Group.{Operations}
use Rattle.numeration.specs.Code.{Code, Agree, Inputs}
use Rattle.numeration.specs.Conversion.{out_digit, convert}

module _ {A : Type 0} (c : Code A) where
  -- the upper word without its first digit
  unfoldable pub tail : ℕ → ℕ → ℕ
  tail u i = c.digit u (suc i)

  -- "U without its first digit and L agree as far as both reach"
  abbrev pub Fits : ℕ → ℕ → Type 0
  Fits u l = Agree (tail u) (c.digit l) (min (pred (c.size u)) (c.size l))

  -- an ordered pair of leaves, the upper one first, that fit; they may be the same leaf
  abbrev pub FittingPair : ℕ × ℕ → Type 0
  FittingPair pair = (pair.0 < c.leaves) × (pair.1 < c.leaves) × Fits pair.0 pair.1

  -- "the number of fitting leaf pairs" (document 02, job 13): so long is a list that has each of them once
  abbrev pub PairsNumber : ℕ → Type 0
  PairsNumber n = (pairs : List (ℕ × ℕ)) × EachOnce FittingPair pairs × (length pairs ≡ n)

module _ {A : Type 0} (o : Operations A) (input : ℕ → A) (c : Code A) where
  -- "The first digit of U, plus L's weight, minus β times U's weight"
  unfoldable pub pair_digit : ℕ → ℕ → A
  pair_digit u l = out_digit o (input (c.digit u 0)) (c.weight l) (c.weight u)

  module _ (Alphabet : A → Type 0) where
    -- every finite row of the m input digits is converted into alphabet digits at every place
    abbrev pub RowsConvert : ℕ → Type 0
    RowsConvert m = (row : List ℕ) → Inputs m row → (j : ℕ) → Alphabet (convert o input c row j)
