-- The row of input indexes that conversion is given.
use mathlib.Core.Path.{◌≡◌, sym, ap, subst, ◌∙◌}
use mathlib.Core.List.{List}
use Prim.Native.Nat.{ℕ, ◌+◌, ◌<◌, ◌≤◌}
use native.Mathlib.Decide.{dec_lt}
use native.Mathlib.Nat.{zero-add}
use native.Mathlib.Omega.{arith}
use lib.ListN.{length, get_or, get_or-eq_default}
use Rattle.lists.proofs.Span.{length_span, get_d_span}
use Rattle.ring.specs.declared.Operation.{Operation}
use Rattle.digit_rules.specs.Digits.{operation_check}
use Rattle.digit_rules.proofs.Formed.{pair_index_below}
use Rattle.numeration.specs.Code.{Inputs}
use Rattle.numeration.proofs.Windows.{convert_ext}
use Rattle.numeration.proofs.Reach.{reach_ext}
use Rattle.reader_rules.specs.Table.{alphabet_part, input_part, input_count}
use Rattle.reader_rules.specs.TableFacts.{table_facts}
use Rattle.reader_rules.specs.Check.{table_check}
use Rattle.reader_rules.proofs.Ready.{ready_passed}
use Rattle.row_rules.specs.Rows.{RowsFit}
use Rattle.table_rules.specs.Pairs.{in_alphabet}
use Rattle.place_rules.specs.Place.{alphabet_index, index_at}
use Rattle.place_rules.specs.Helpers.{part_row}
use Rattle.place_rules.proofs.Part.{part_in, part_behind, part_each}
use Rattle.adder_rules.specs.Sum.{digit_count, place_count, row_digit, row_reach}
use Rattle.adder_rules.specs.Input.{input_of, input_row, row_index}
use Rattle.adder_rules.specs.Add.{row_allowed}
use Rattle.adder_rules.proofs.Table.{all_listed}

-- the digit at place j is the same for rows that agree at its own place and the h places below it
module _ (file r s : List ℕ) (j : ℕ) (same : (k : ℕ) → k ≤ j → j ≤ k + (table_facts file).depth → get_or r k 0 ≡ get_or s k 0) where
  pub same_digit : row_digit file r j ≡ row_digit file s j
  unfolding table_facts
  same_digit = convert_ext _ _ _ r s j same

  pub same_index : row_index file r j ≡ row_index file s j
  unfolding index_at
  same_index = ap (alphabet_index (alphabet_part file)) same_digit

  pub same_allowed : row_allowed file r j ≡ row_allowed file s j
  same_allowed = ap (in_alphabet (alphabet_part file)) same_digit

-- and so is the reach of some places, for rows that agree where their digits depend on them
pub same_reach : (file r s : List ℕ) (p count : ℕ) → ((k : ℕ) → p ≤ k + (table_facts file).depth → k < p + count → get_or r k 0 ≡ get_or s k 0) → row_reach file r p count ≡ row_reach file s p count
unfolding table_facts
same_reach file r s p count same = reach_ext _ r s p count same

module _ (op : Operation) (file first second : List ℕ) (room : ℕ) (passes : (table_check file).number ≡ 0) (asked : (operation_check op (alphabet_part file) (input_part file)).number ≡ 0)
    (fit : RowsFit first second room (digit_count file) (table_facts file).depth) where
  pub inputs_below : (k : ℕ) → k < length first → input_of op file first second k < input_count file
  inputs_below k h =
      pair_index_below op (alphabet_part file) (input_part file) (all_listed file passes op asked) _ _ (fit.first_indexes k h) (fit.second_indexes k (omega (arith, fit.same_length)))

  -- a part of the row, as an array holds it: input indexes, and those of the row from place `from` on as far as the part reaches
  module _ (from end : ℕ) (low : from ≤ end) (high : end ≤ length first) where
    pub part_inputs : Inputs (input_count file) (part_row (input_of op file first second) from end)
    part_inputs k h =
        part_each (input_of op file first second) from end low (omega (arith, fit.short)) (λ d. d < input_count file) (ready_passed file passes).code.some_input (λ k l h. inputs_below k (omega arith)) k

    pub part_same : (k : ℕ) → from ≤ k → (k < length first → k < end) → get_or (part_row (input_of op file first second) from end) k 0 ≡ get_or (input_row op file first second) k 0
    unfolding input_row
    part_same k l reaches =
        elim (dec_lt k (length first)) [
          | yes h ↦ part_in (input_of op file first second) from end low (omega (arith, fit.short)) k l (reaches h) ∙ ap (input_of op file first second) (sym (zero-add k)) ∙ sym (get_d_span (input_of op file first second) 0 (length first) k 0 h)
          | no h ↦ part_behind (input_of op file first second) from end low (omega (arith, fit.short)) k (omega arith) ∙ sym (get_or-eq_default (input_row op file first second) 0 {n = k} (omega (arith, length_span (input_of op file first second) 0 (length first))))
        ]

  pub row_held : (row : List ℕ) → row ≡ part_row (input_of op file first second) 0 (length first)
      → Inputs (input_count file) row × ((k : ℕ) → get_or row k 0 ≡ get_or (input_row op file first second) k 0)
  row_held row is =
      (subst (Inputs (input_count file)) (sym is) (part_inputs 0 (length first) (omega arith) (omega arith)), λ k. ap (λ (r : List ℕ). get_or r k 0) is ∙ part_same 0 (length first) (omega arith) (omega arith) k (omega arith) (λ h. h))

-- the digits fit into 264 bytes
pub few_places : (file first second : List ℕ) (room : ℕ) → (table_check file).number ≡ 0 → RowsFit first second room (digit_count file) (table_facts file).depth → place_count file first ≤ 264
few_places file first second room passes fit = omega (arith, fit.short, (ready_passed file passes).depth_high)
