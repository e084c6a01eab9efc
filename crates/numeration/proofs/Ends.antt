-- What stands below place 0 and from place n + h on; and the value of a converted row.
use mathlib.Core.Path.{◌≡◌, refl, sym, ap, ◌∙◌}
use mathlib.Core.List.{List, map}
use Prim.Native.Nat.{ℕ, suc, ◌+◌, ◌<◌, ◌≤◌}
use native.Mathlib.Omega.{arith}
use lib.ListN.{length, get_or, get_or-eq_default}
use Rattle.lists.specs.Span.{span}
use Rattle.lists.proofs.Span.{map_span, span_get_d}
use Rattle.numeration.specs.Group.{Operations}
use Rattle.numeration.specs.Laws.{AdditiveGroup, convert_row, InGroup}
use Rattle.numeration.specs.Code.{Code}
use Rattle.numeration.specs.LeafOf.{leaf_of, depth}
use Rattle.numeration.specs.Prefix.{PrefixCode}
use Rattle.numeration.specs.Conversion.{window, leaf_into, weight_into, weight_at, convert}
use Rattle.numeration.specs.Value.{value, top_down}
use Rattle.numeration.proofs.Leaves.{size_depth, leaf_of_unique}
use Rattle.numeration.proofs.Windows.{window_by_place}
use Rattle.numeration.proofs.Sums.{unit_right, out_digit_none, element_out_digit, elements_span, element_top_down, telescope, top_down_padded, value_top_down}

module _ {A : Type 0} (c : Code A) (m : ℕ) (p : PrefixCode c m) where
  -- where the window of a place begins with h zeros, its leaf is leaf 0, and the weight into the place is leaf 0's
  pub leaf_zeros : (row : List ℕ) (j : ℕ) → ((k : ℕ) → k < depth c → window row j k ≡ 0) → leaf_into c row j ≡ 0
  leaf_zeros row j zeros =
      leaf_of_unique c p.separate (window row j) 0 p.some_leaf (λ k h. p.zeros k h ∙ sym (zeros k (omega (arith, size_depth c 0 p.some_leaf))))

  weight_zeros : (row : List ℕ) (j : ℕ) → ((k : ℕ) → k < depth c → window row j k ≡ 0) → weight_into c row j ≡ c.weight 0
  unfolding weight_into
  weight_zeros row j zeros = ap c.weight (leaf_zeros row j zeros)

  pub weight_below : (row : List ℕ) → weight_into c row 0 ≡ c.weight 0
  unfolding window
  weight_below row = weight_zeros row 0 (λ k h. refl)

  pub weight_above : (row : List ℕ) (j : ℕ) → length row + depth c ≤ j → weight_into c row j ≡ c.weight 0
  weight_above row j high =
      weight_zeros row j (λ k h. window_by_place (λ d e. d ≡ 0) row row j k (λ low. refl) (λ i e. get_or-eq_default row 0 {n = i} (omega arith)))

module _ {A : Type 0} (o : Operations A) (Element : A → Type 0) (g : AdditiveGroup o Element) (input : ℕ → A) (c : Code A) (m : ℕ) (p : PrefixCode c m) (i : InGroup o Element input c) where
  pub convert_above : (row : List ℕ) (j : ℕ) → length row + depth c ≤ j → convert o input c row j ≡ o.none
  unfolding convert weight_at
  convert_above row j h =
      rw (get_or-eq_default row 0 {n = j} (omega arith), weight_above c m p row j h, weight_above c m p row (suc j) (omega arith), i.input_zero, i.weight_zero)
      (out_digit_none o Element g)

  -- the value of a converted row: the weights cancel, and none is left at either end
  pub convert_value : (row : List ℕ) → value o (convert_row o input c row) ≡ value o (map input row)
  unfolding convert_row convert weight_at
  convert_value row =
      (value_top_down o Element g _ (elements_span o Element g (convert o input c row) digit 0 places) ∙ telescope o Element g w q inputs weights 0 places above)
      ∙ (below ∙ (top_down_padded o Element g w 0 (length row) (depth c) outside
      ∙ (sym (value_top_down o Element g _ (elements_span o Element g w inputs 0 (length row))) ∙ ap (value o) read)))
    where
      places : ℕ
      places = length row + depth c

      w : ℕ → A
      w j = input (get_or row j 0)

      q : ℕ → A
      q j = weight_into c row j

      inputs : (j : ℕ) → Element (w j)
      inputs j = i.element_input (get_or row j 0)

      weights : (j : ℕ) → Element (q j)
      weights j = unfold weight_into in i.element_weight (leaf_of c (window row j))

      digit : (j : ℕ) → Element (convert o input c row j)
      digit j = element_out_digit o Element g (inputs j) (weights j) (weights (suc j))

      above : q (0 + places) ≡ o.none
      above = weight_above c m p row (0 + places) (omega arith) ∙ i.weight_zero

      below : o.sum (top_down o (span w 0 places)) (q 0) ≡ top_down o (span w 0 places)
      below = ap (o.sum (top_down o (span w 0 places))) (weight_below c m p row ∙ i.weight_zero) ∙ unit_right o Element g (element_top_down o Element g _ (elements_span o Element g w inputs 0 places))

      outside : (j : ℕ) → 0 + length row ≤ j → w j ≡ o.none
      outside j h = ap input (get_or-eq_default row 0 {n = j} (omega arith)) ∙ i.input_zero

      read : span w 0 (length row) ≡ map input row
      read = sym (map_span input (λ k. get_or row k 0) 0 (length row)) ∙ ap (map input) (span_get_d row 0)
