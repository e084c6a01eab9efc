-- Pinned by pair_check and convert_string (proofs/Pairs.antt): a reader may skip this file. Rule 14 as a test of pairs, and the row that
-- shows a fitting pair.
use Rattle.std.specs.Prelude.{Bool, true, false, List, ℕ, zero, suc, ◌-◌, min, max, pred, leb}
use Rattle.lists.specs.Span.{span}
use Rattle.lists.specs.Scan.{first_failing, every}
use Rattle.numeration.specs.Group.{Operations}
use Rattle.numeration.specs.Code.{Code}
use Rattle.numeration.specs.LeafOf.{agree}
use Rattle.numeration.specs.Pairs.{tail, pair_digit}

module _ {A : Type 0} (c : Code A) where
  -- `Fits` as a test
  unfoldable pub fits : ℕ → ℕ → Bool
  fits u l = agree (tail c u) (c.digit l) (min (pred (c.size u)) (c.size l))

  -- from the top: the upper's first digit, then the longer of its tail and the lower word
  unfoldable pub pair_digit_at : ℕ → ℕ → ℕ → ℕ
  pair_digit_at u l zero = c.digit u 0
  pair_digit_at u l (suc i) = elim (leb (pred (c.size u)) (c.size l)) [ true ↦ c.digit l i | false ↦ tail c u i ]

  -- the place of the string's last digit, counted from the top
  abbrev pub pair_bottom : ℕ → ℕ → ℕ
  pair_bottom u l = max (pred (c.size u)) (c.size l)

  -- the string of a fitting pair, top digit first
  unfoldable pub pair_string : ℕ → ℕ → List ℕ
  pair_string u l = span (pair_digit_at u l) 0 (suc (pair_bottom u l))

  -- the same digits as a row, lowest first
  unfoldable pub pair_row : ℕ → ℕ → List ℕ
  pair_row u l = span (λ p. pair_digit_at u l (pair_bottom u l - p)) 0 (suc (pair_bottom u l))

module _ {A : Type 0} (o : Operations A) (input : ℕ → A) (c : Code A) (alphabet : A → Bool) where
  -- rule 14 for one pair, for one upper leaf, and the lowest upper leaf that breaks it (the leaf count where none does)
  unfoldable pub pair_passes : ℕ → ℕ → Bool
  pair_passes u l = elim (fits c u l) [ true ↦ alphabet (pair_digit o input c u l) | false ↦ true ]

  unfoldable pub upper_passes : ℕ → Bool
  upper_passes u = every (pair_passes u) 0 c.leaves

  unfoldable pub lowest_bad_upper : ℕ
  lowest_bad_upper = first_failing upper_passes 0 c.leaves
