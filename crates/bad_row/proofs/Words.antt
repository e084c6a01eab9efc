-- The string of two words, and that it is the string of the pair of leaves that have these words.
use mathlib.Core.Path.{◌≡◌, sym, ap, ◌∙◌}
use mathlib.Core.List.{List, ◌++◌}
use Prim.Native.Nat.{ℕ, zero, suc, ◌+◌, ◌<◌, ◌≤◌, pred}
use native.Mathlib.Omega.{arith}
use native.Mathlib.Decide.{dec_lt}
use lib.ListN.{length, get_or, take, length-append, get_or-append}
use lib.Seq.{length-take-le, get_or-take, get_or-append-add, ext_get_or}
use borrow.Author.Tests.{le-leb, lt-leb}
use Rattle.numeration.specs.Code.{Code}
use Rattle.numeration.specs.Pairs.{Fits}
use Rattle.numeration.specs.PairTests.{pair_digit_at, pair_string}
use Rattle.numeration.proofs.Pairs.{length_pair_string, pair_string_at, pair_upper, pair_lower}
use Rattle.bad_row.specs.Words.{word_string}

module _ (upper lower : List ℕ) where
  pub string_tail : length lower + 1 < length upper → word_string upper lower ≡ upper
  unfolding word_string
  string_tail h = rw (lt-leb (pred (length upper)) (length lower) (omega arith), word_string)

  pub string_lower : length upper ≤ length lower + 1 → word_string upper lower ≡ take 1 upper ++ lower
  unfolding word_string
  string_lower h = rw (le-leb (pred (length upper)) (length lower) (omega arith), word_string)

-- two leaves that fit, and their words as they are handed out
module _ {A : Type 0} (c : Code A) (u l : ℕ) (fit : Fits c u l) (upper lower : List ℕ) (some : 0 < c.size u) (long_upper : length upper ≡ c.size u) (long_lower : length lower ≡ c.size l)
    (reads_upper : (i : ℕ) → i < c.size u → get_or upper i 0 ≡ c.digit u i) (reads_lower : (i : ℕ) → i < c.size l → get_or lower i 0 ≡ c.digit l i) where
  first : length (take 1 upper) ≡ 1
  first = length-take-le 1 upper (omega arith)

  -- the upper word's first digit and the lower word
  behind : (i : ℕ) → i < suc (length lower) → get_or (take 1 upper ++ lower) i 0 ≡ pair_digit_at c u l i
  behind zero h =
      get_or-append (take 1 upper) lower 0 0 (omega (arith, first)) ∙ get_or-take 1 upper 0 0 (omega arith) ∙ reads_upper 0 some ∙ pair_upper c u l fit 0 some
  behind (suc i) h =
      ap (λ (k : ℕ). get_or (take 1 upper ++ lower) k 0) (omega (arith, first)) ∙ get_or-append-add (take 1 upper) lower i 0 ∙ reads_lower i (omega arith) ∙ pair_lower c u l fit i (omega arith)

  pub string_is : word_string upper lower ≡ pair_string c u l
  string_is =
      elim (dec_lt (length lower + 1) (length upper)) [
        | yes h ↦ string_tail upper lower h ∙ ext_get_or 0 upper (pair_string c u l) (omega (arith, length_pair_string c u l)) (λ i k. reads_upper i (omega arith) ∙ pair_upper c u l fit i (omega arith) ∙ sym (pair_string_at c u l i (omega arith)))
        | no h ↦ string_lower upper lower (omega arith) ∙ ext_get_or 0 (take 1 upper ++ lower) (pair_string c u l) (omega (arith, whole, length_pair_string c u l)) (λ i k. behind i (omega (arith, whole)) ∙ sym (pair_string_at c u l i (omega (arith, whole))))
      ]
    where
      whole : length (take 1 upper ++ lower) ≡ suc (length lower)
      whole = omega (arith, length-append (take 1 upper) lower, first)
