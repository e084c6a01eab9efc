-- Fitting pairs: neighbouring leaves of a row fit, and each fitting pair stands in some row.
use mathlib.Core.Path.{◌≡◌, refl, sym, ap, ◌∙◌}
use mathlib.Core.Bool.{Bool, true, false}
use mathlib.Core.Logic.{◌↔◌}
use mathlib.Core.List.{List}
use Prim.Native.Nat.{ℕ, zero, suc, ◌+◌, ◌-◌, ◌<◌, ◌≤◌, pred}
use native.Mathlib.Omega.{arith}
use native.Mathlib.Nat.{zero-add}
use lib.Dec.{leb}
use lib.ListN.{length, get_or}
use borrow.Author.Tests.{leb-true, leb-false}
use Rattle.lists.specs.Span.{span}
use Rattle.lists.proofs.Span.{length_span, get_d_span}
use Rattle.lists.proofs.Scan.{scan_passed, scan_all, every_sound, every_complete}
use Rattle.numeration.specs.Group.{Operations}
use Rattle.numeration.specs.Code.{Code, Begins, Inputs}
use Rattle.numeration.specs.Prefix.{PrefixCode}
use Rattle.numeration.specs.Conversion.{window, leaf_into, weight_at, convert}
use Rattle.numeration.specs.Pairs.{tail, Fits, pair_digit, RowsConvert}
use Rattle.numeration.specs.Laws.{PairsConvert}
use Rattle.numeration.specs.Held.{Holds}
use Rattle.numeration.specs.PairTests.{pair_digit_at, pair_bottom, pair_string, pair_row, fits, pair_passes, upper_passes, lowest_bad_upper}
use Rattle.numeration.proofs.Agreement.{agree_sound, agree_complete}
use Rattle.numeration.proofs.Leaves.{leaf_of_begins}
use Rattle.numeration.proofs.Windows.{window_by_place, window_below, weight_into_leaf}

-- the digits f, top first, as a row: read down from its top place they are f again
pub row_read : (f : ℕ → ℕ) (n k : ℕ) → k ≤ n → window (span (λ i. f (n - i)) 0 (suc n)) (suc n) k ≡ f k
row_read f n k top =
    window_by_place (λ d e. d ≡ f k) row row (suc n) k (λ low. absurd (omega arith)) (λ i e. get_d_span (λ i. f (n - i)) 0 (suc n) i 0 (omega arith) ∙ ap f (omega arith))
  where
    row : List ℕ
    row = span (λ i. f (n - i)) 0 (suc n)

module _ {A : Type 0} (c : Code A) where
  -- the leaves of neighbouring windows fit, since the windows overlap
  pub neighbours_fit : (row : List ℕ) (j u l : ℕ) → Begins c u (window row (suc j)) → Begins c l (window row j) → Fits c u l
  unfolding window tail
  neighbours_fit row j u l b d i h = b (suc i) (omega arith) ∙ sym (d i (omega arith))

  -- a digit of the string below its top is one of the longer word
  longer : (P : ℕ → Type 0) (u l i : ℕ) → (pred (c.size u) ≤ c.size l → P (c.digit l i)) → (c.size l < pred (c.size u) → P (tail c u i)) → P (pair_digit_at c u l (suc i))
  unfolding pair_digit_at
  longer P u l i lower upper = go (leb (pred (c.size u)) (c.size l)) refl
    where
      go : (b : Bool) → leb (pred (c.size u)) (c.size l) ≡ b → P (pair_digit_at c u l (suc i))
      go true e = rw (e, pair_digit_at) (lower (leb-true _ _ e))
      go false e = rw (e, pair_digit_at) (upper (leb-false _ _ e))

  pub length_pair_string : (u l : ℕ) → length (pair_string c u l) ≡ suc (pair_bottom c u l)
  unfolding pair_string
  length_pair_string u l = length_span (pair_digit_at c u l) 0 _

  pub pair_string_at : (u l i : ℕ) → i ≤ pair_bottom c u l → get_or (pair_string c u l) i 0 ≡ pair_digit_at c u l i
  unfolding pair_string
  pair_string_at u l i h = get_d_span _ 0 (suc (pair_bottom c u l)) i 0 (omega arith) ∙ ap (pair_digit_at c u l) (zero-add i)

  module _ (u l : ℕ) (fit : Fits c u l) where
    -- the upper leaf begins the string, the lower one the string without its top
    pub pair_upper : Begins c u (pair_digit_at c u l)
    unfolding pair_digit_at tail
    pair_upper zero h = refl
    pair_upper (suc i) h = longer (λ d. c.digit u (suc i) ≡ d) u l i (λ le. fit i (omega arith)) (λ lt. refl)

    pub pair_lower : Begins c l (λ i. pair_digit_at c u l (suc i))
    pair_lower i h = longer (λ d. c.digit l i ≡ d) u l i (λ le. refl) (λ lt. sym (fit i (omega arith)))

    module _ (row : List ℕ) (j : ℕ) (holds : Holds row j (pair_string c u l)) where
      read : (i : ℕ) → i ≤ pair_bottom c u l → window row (suc j) i ≡ pair_digit_at c u l i
      read i h = holds i (omega (arith, length_pair_string u l)) ∙ pair_string_at u l i h

      pub holds_upper : Begins c u (window row (suc j))
      holds_upper i h = pair_upper i h ∙ sym (read i (omega arith))

      pub holds_lower : Begins c l (window row j)
      unfolding window
      holds_lower i h = pair_lower i h ∙ sym (read (suc i) (omega arith))

  -- the row of a pair holds its string, at its top place
  pub pair_row_holds : (u l : ℕ) → Holds (pair_row c u l) (pair_bottom c u l) (pair_string c u l)
  unfolding pair_row
  pair_row_holds u l k h =
      let top : k ≤ pair_bottom c u l = omega (arith, length_pair_string u l) in
      row_read (pair_digit_at c u l) (pair_bottom c u l) k top ∙ sym (pair_string_at u l k top)

  pub pair_row_inputs : (m u l : ℕ) → PrefixCode c m → u < c.leaves → l < c.leaves → Inputs m (pair_row c u l)
  unfolding pair_row
  pair_row_inputs m u l p hu hl k h =
      let n : ℕ = pair_bottom c u l in
      rw (get_d_span (λ i. pair_digit_at c u l (n - i)) 0 (suc n) k 0 (rw length_span at h)) (digit (n - (0 + k)) (omega arith))
    where
      digit : (i : ℕ) → i ≤ pair_bottom c u l → pair_digit_at c u l i < m
      digit zero h = unfold pair_digit_at in p.indexes u 0 hu (p.nonempty u hu)
      digit (suc i) h = longer (λ d. d < m) u l i (λ le. p.indexes l i hl (omega arith)) (λ lt. unfold tail in p.indexes u (suc i) hu (omega arith))

  -- in a row of input digits the leaf that is looked up begins its window
  pub into_begins : (m : ℕ) → PrefixCode c m → (row : List ℕ) → Inputs m row → (j : ℕ) → (leaf_into c row j < c.leaves) × Begins c (leaf_into c row j) (window row j)
  into_begins m p row inputs j = leaf_of_begins c (window row j) (p.complete (window row j) (window_below m row p.some_input inputs j))

module _ {A : Type 0} (o : Operations A) (input : ℕ → A) (c : Code A) (m : ℕ) (p : PrefixCode c m) where
  -- the digit at a place is that of the pair of leaves that begin the windows there and below
  pub convert_pair : (row : List ℕ) (j u l : ℕ) → u < c.leaves → l < c.leaves → Begins c u (window row (suc j)) → Begins c l (window row j) → convert o input c row j ≡ pair_digit o input c u l
  unfolding convert weight_at pair_digit window
  convert_pair row j u l hu hl b d =
      rw (sym (b 0 (p.nonempty u hu)), weight_into_leaf c p.separate row j l hl d, weight_into_leaf c p.separate row (suc j) u hu b)

  -- in every row that holds the string of a fitting pair, the digit at its top place is the pair's
  pub convert_string : (u l : ℕ) → u < c.leaves → l < c.leaves → Fits c u l → (row : List ℕ) (j : ℕ) → Holds row j (pair_string c u l) → convert o input c row j ≡ pair_digit o input c u l
  convert_string u l hu hl fit row j holds = convert_pair row j u l hu hl (holds_upper c u l fit row j holds) (holds_lower c u l fit row j holds)

  -- every fitting pair gives an alphabet digit exactly when every row is converted into alphabet digits
  pub pairs_rows : (Alphabet : A → Type 0) → PairsConvert o input c Alphabet ↔ RowsConvert o input c Alphabet m
  pairs_rows Alphabet = (rows, pairs)
    where
      rows : PairsConvert o input c Alphabet → RowsConvert o input c Alphabet m
      rows all row inputs j =
          let (hu, b) = into_begins c m p row inputs (suc j) in
          let (hl, d) = into_begins c m p row inputs j in
          rw (convert_pair row j _ _ hu hl b d) (all _ _ hu hl (neighbours_fit c row j _ _ b d))

      pairs : RowsConvert o input c Alphabet m → PairsConvert o input c Alphabet
      pairs all u l hu hl fit =
          rw (convert_string u l hu hl fit (pair_row c u l) (pair_bottom c u l) (pair_row_holds c u l)) at (all (pair_row c u l) (pair_row_inputs c m u l p hu hl) (pair_bottom c u l))

module _ {A : Type 0} (o : Operations A) (input : ℕ → A) (c : Code A) (alphabet : A → Bool) where
  pass_sound : (u l : ℕ) → pair_passes o input c alphabet u l ≡ true → Fits c u l → alphabet (pair_digit o input c u l) ≡ true
  unfolding pair_passes fits
  pass_sound u l h fit = rw (agree_complete _ _ _ fit, pair_passes) at h

  pass_complete : (u l : ℕ) → (Fits c u l → alphabet (pair_digit o input c u l) ≡ true) → pair_passes o input c alphabet u l ≡ true
  unfolding pair_passes
  pass_complete u l h = go (fits c u l) refl
    where
      go : (b : Bool) → fits c u l ≡ b → pair_passes o input c alphabet u l ≡ true
      go true e = rw (e, pair_passes) (h (unfold fits in agree_sound _ _ _ e))
      go false e = rw (e, pair_passes)

  -- rule 14 finds no upper leaf exactly when every fitting pair gives an alphabet digit
  pub pair_check : (lowest_bad_upper o input c alphabet ≡ c.leaves) ↔ PairsConvert o input c (λ x. alphabet x ≡ true)
  unfolding lowest_bad_upper upper_passes
  pair_check = (sound, complete)
    where
      sound : lowest_bad_upper o input c alphabet ≡ c.leaves → PairsConvert o input c (λ x. alphabet x ≡ true)
      sound e u l hu hl fit =
          pass_sound u l (every_sound _ 0 c.leaves (scan_passed (upper_passes o input c alphabet) 0 c.leaves u (omega arith) (omega arith)) l (omega arith) (omega arith)) fit

      complete : PairsConvert o input c (λ x. alphabet x ≡ true) → lowest_bad_upper o input c alphabet ≡ c.leaves
      complete all =
          scan_all _ 0 c.leaves (λ u _ hu. every_complete _ 0 c.leaves (λ l _ hl. pass_complete u l (all u l (omega arith) (omega arith)))) ∙ zero-add _
