-- Addition and subtraction that aren't refused: the bytes of the result, and its value.
use mathlib.Core.Path.{◌≡◌, sym, ap, subst, ◌∙◌}
use mathlib.Core.List.{List, map}
use Prim.Native.Nat.{ℕ, ◌+◌, ◌<◌, ◌≤◌, ◌-◌}
use native.Mathlib.Nat.{zero-add}
use native.Mathlib.Omega.{arith}
use lib.ListN.{length, get_or, take, get_or-eq_default}
use lib.IntN.{ℤ}
use borrow.Author.Tests.{ltb-true}
use Rattle.ring.specs.Padded.{width}
use Rattle.lists.specs.Span.{span}
use Rattle.lists.specs.Overwrite.{overwrite}
use Rattle.lists.proofs.Span.{length_span, get_d_span, span_ext, span_get_d, map_span}
use Rattle.lists.proofs.Overwrite.{length_overwrite}
use Rattle.faults.specs.Outcome.{facts, author, rows}
use Rattle.faults.proofs.Exit.{exit_written}
use Rattle.faults.proofs.Check.{judge_passed}
use Rattle.calls.proofs.Answers.{unless_given}
use Rattle.ring.specs.declared.Operation.{Operation}
use Rattle.ring.specs.Operation.{combine}
use Rattle.digit_rules.specs.Digits.{operation_check}
use Rattle.digit_rules.specs.Record.{record_at, element_count}
use Rattle.digit_rules.proofs.Record.{element_parts}
use Rattle.numeration.specs.Laws.{convert_row, HasParts}
use Rattle.numeration.specs.Value.{value}
use Rattle.numeration.proofs.Laws.{same_value}
use Rattle.reader_rules.specs.Table.{alphabet_part, input_part, leaf_part, word_part, operations_of, input_count, leaves_in, value_of}
use Rattle.reader_rules.specs.TableFacts.{table_facts}
use Rattle.reader_rules.specs.Check.{table_check}
use Rattle.reader_rules.proofs.Ready.{ready_passed}
use Rattle.row_rules.specs.Check.{row_check}
use Rattle.row_rules.specs.Rows.{RowsFit}
use Rattle.row_rules.proofs.Fit.{rows_fit}
use Rattle.table_rules.specs.Pairs.{in_alphabet}
use Rattle.place_rules.specs.Place.{index_at}
use Rattle.place_rules.proofs.Place.{input_is, index_names}
use Rattle.lists.proofs.Entries.{overwrite_in, overwrite_behind}
use Rattle.adder_rules.specs.declared.AddedFacts.{AddedFacts}
use Rattle.adder_rules.specs.Sum.{digit_count, place_count, row_digit}
use Rattle.adder_rules.specs.Input.{input_of, input_row, row_index}
use Rattle.adder_rules.specs.Add.{row_allowed, row_part, output_check, result_row, digits_outcome, asked_outcome, result_outcome, result_in}
use Rattle.adder_rules.specs.Combined.{DigitsCombined, Combined}
use Rattle.adder_rules.proofs.Part.{written_first}
use Rattle.adder_rules.proofs.Table.{all_listed}
use Rattle.adder_rules.proofs.Values.{value_combined}

-- byte j of the result
pub result_row_at : (op : Operation) (file first second : List ℕ) (j : ℕ) → j < place_count file first → get_or (result_row op file first second) j 0 ≡ row_index file (input_row op file first second) j
unfolding result_row row_part
result_row_at op file first second j h =
    get_d_span (λ k. row_index file (input_row op file first second) (0 + k)) 0 (place_count file first) j 0 h ∙ ap (row_index file (input_row op file first second)) (zero-add (0 + j) ∙ zero-add j)

pub result_row_long : (op : Operation) (file first second : List ℕ) → length (result_row op file first second) ≡ place_count file first
unfolding result_row row_part
result_row_long op file first second = length_span (λ k. row_index file (input_row op file first second) (0 + k)) 0 (place_count file first)

-- what facts say of the stages
pub record Passed (op : Operation) (file first second : List ℕ) (room : ℕ) : Type 0 where
  pub table : (table_check file).number ≡ 0
  pub fit : RowsFit first second room (digit_count file) (table_facts file).depth
  pub asked : (operation_check op (alphabet_part file) (input_part file)).number ≡ 0
  pub digits : (j : ℕ) → j < place_count file first → row_index file (input_row op file first second) j < element_count (alphabet_part file)

pub passed : (op : Operation) (file first second : List ℕ) (room : ℕ) (f : AddedFacts) → result_outcome op file first second room ≡ facts f → Passed op file first second room
unfolding result_outcome asked_outcome digits_outcome output_check index_at in_alphabet
passed op file first second room f e =
    let a = unless_given author (table_check file) _ f e in
    let b = unless_given rows (row_check first second room (digit_count file) (table_facts file).depth) _ f a.1 in
    let o = unless_given author (operation_check op (alphabet_part file) (input_part file)) _ f b.1 in
    let d = unless_given author (output_check file (input_row op file first second) 0 (place_count file first)) _ f o.1 in
    record {
      table = a.0;
      fit = rows_fit first second room (digit_count file) (table_facts file).depth b.0;
      asked = o.0;
      digits = λ j h. subst (λ (k : ℕ). row_index file (input_row op file first second) k < element_count (alphabet_part file)) (zero-add j) (ltb-true _ _ (judge_passed 27 (λ k. 0 + k) (λ k. row_allowed file (input_row op file first second) (0 + k)) (place_count file first) (omega arith) d.0 j h));
    }

-- what is converted, also where a digit that comes out of it gets 27
module _ (op : Operation) (file first second : List ℕ) (room : ℕ) (table : (table_check file).number ≡ 0) (asked : (operation_check op (alphabet_part file) (input_part file)).number ≡ 0)
    (fit : RowsFit first second room (digit_count file) (table_facts file).depth) where
  -- w(j) is what the operation makes of the two digits at place j
  made_at : (k : ℕ) → k < length first → record_at (input_part file) (input_of op file first second k) ≡ combine op (record_at (alphabet_part file) (get_or first k 0)) (record_at (alphabet_part file) (get_or second k 0))
  made_at k h =
      let low : get_or first k 0 < element_count (alphabet_part file) = fit.first_indexes k h in
      let also : get_or second k 0 < element_count (alphabet_part file) = fit.second_indexes k (omega (arith, fit.same_length)) in
      input_is op (alphabet_part file) (input_part file) (all_listed file table op asked) first second k low also

  -- and zero outside the rows
  pub digits_combined : DigitsCombined op file first second
  unfolding input_row
  digits_combined =
      record {
        inside = λ j h. ap (record_at (input_part file)) (get_d_span (input_of op file first second) 0 (length first) j 0 h ∙ ap (input_of op file first second) (zero-add j)) ∙ made_at j h;
        outside = λ j h. ap (record_at (input_part file)) (get_or-eq_default (input_row op file first second) 0 {n = j} (omega (arith, length_span (input_of op file first second) 0 (length first)))) ∙ (ready_passed file table).input_zero;
      }

module _ (op : Operation) (file first second : List ℕ) (room : ℕ) (is : Passed op file first second room) where
  -- the digit of the result is z(j)
  pub digit_is : (j : ℕ) → j < place_count file first → record_at (alphabet_part file) (row_index file (input_row op file first second) j) ≡ row_digit file (input_row op file first second) j
  digit_is j h =
      index_names (operations_of file) (alphabet_part file) (input_part file) (leaf_part file) (word_part file) (input_row op file first second) j (is.digits j h)

  -- the result has the value of the row of input digits
  converted : map (record_at (alphabet_part file)) (result_row op file first second) ≡ convert_row (operations_of file) (record_at (input_part file)) (leaves_in file) (input_row op file first second)
  unfolding result_row row_part convert_row input_row table_facts
  converted =
      let row = input_row op file first second in
      let a : ℕ → List ℤ = record_at (alphabet_part file) in
      map_span a (λ k. row_index file row (0 + k)) 0 (place_count file first)
      ∙ span_ext (λ k. a (row_index file row (0 + k))) (row_digit file row) 0 0 (place_count file first) (λ k h. ap (λ (n : ℕ). a (row_index file row n)) (zero-add (0 + k)) ∙ digit_is (0 + k) (omega arith))
      ∙ ap (λ (n : ℕ). span (row_digit file row) 0 (n + (table_facts file).depth)) (sym (length_span (input_of op file first second) 0 (length first)))

  -- whose digits are made of those of both rows
  made : map (record_at (input_part file)) (input_row op file first second) ≡ span (λ k. combine op (record_at (alphabet_part file) (get_or first k 0)) (record_at (alphabet_part file) (get_or second k 0))) 0 (length first)
  unfolding input_row
  made =
      let a : ℕ → List ℤ = record_at (alphabet_part file) in
      map_span (record_at (input_part file)) (input_of op file first second) 0 (length first)
      ∙ span_ext (λ k. record_at (input_part file) (input_of op file first second k)) (λ k. combine op (a (get_or first k 0)) (a (get_or second k 0))) 0 0 (length first) (λ k h. made_at op file first second room is.table is.asked is.fit (0 + k) (omega arith))

  row_digits : (row : List ℕ) → length row ≡ length first → span (λ k. record_at (alphabet_part file) (get_or row k 0)) 0 (length first) ≡ map (record_at (alphabet_part file)) row
  row_digits row l =
      sym (map_span (record_at (alphabet_part file)) (λ k. get_or row k 0) 0 (length first)) ∙ ap (map (record_at (alphabet_part file))) (ap (span (λ k. get_or row k 0) 0) (sym l) ∙ span_get_d row 0)

  value_of_result : value_of file (result_row op file first second) ≡ combine op (value_of file first) (value_of file second)
  value_of_result =
      let r = ready_passed file is.table in
      let o = operations_of file in
      let a : ℕ → List ℤ = record_at (alphabet_part file) in
      ap (value o) converted
      ∙ (same_value o (HasParts width) r.group (record_at (input_part file)) (leaves_in file) (input_count file) r.code r.in_group).0 (input_row op file first second)
      ∙ ap (value o) made
      ∙ value_combined op file r.group (λ k. a (get_or first k 0)) (λ k. a (get_or second k 0)) (λ k. element_parts (alphabet_part file) _) (λ k. element_parts (alphabet_part file) _) (length first)
      ∙ (λ i. combine op (value o (row_digits first (λ j. length first) i)) (value o (row_digits second is.fit.same_length i)))

-- Addition or subtraction that isn't refused. Byte j of the result is the alphabet index of z(j), for every j below n + h, further bytes
-- are kept, and the value of the result is the sum of the values, or the first row's minus the second's.
pub combined : (op : Operation) (file first second buffer : List ℕ) (f : AddedFacts) → result_outcome op file first second (length buffer) ≡ facts f → Combined op file first second buffer
unfolding result_in
combined op file first second buffer f e =
    let is = passed op file first second (length buffer) f e in
    let row = result_row op file first second in
    let n = place_count file first in
    let long : length row ≡ n = result_row_long op file first second in
    let room : n ≤ length buffer = is.fit.room in
    let written : result_in op file first second buffer ≡ overwrite buffer 0 row = sym (exit_written (result_outcome op file first second (length buffer)) f buffer (overwrite buffer 0 row) (sym e)) in
    let at : (j : ℕ) → j < n → get_or (result_in op file first second buffer) j 0 ≡ row_index file (input_row op file first second) j = λ j h. ap (λ (s : List ℕ). get_or s j 0) written ∙ ap (λ (k : ℕ). get_or (overwrite buffer 0 row) k 0) (sym (zero-add j)) ∙ overwrite_in buffer row 0 (omega arith) j (omega arith) ∙ result_row_at op file first second j h in
    record {
      inputs = digits_combined op file first second (length buffer) is.table is.asked is.fit;
      index = at;
      within_alphabet = λ j h. omega (arith, at j h, is.digits j h);
      digit = λ j h. ap (record_at (alphabet_part file)) (at j h) ∙ digit_is op file first second (length buffer) is j h;
      further = λ j h. let k : j ≡ 0 + length row + (j - n) = omega arith in ap (λ (s : List ℕ). get_or s j 0) written ∙ ap (λ (m : ℕ). get_or (overwrite buffer 0 row) m 0) k ∙ overwrite_behind buffer row 0 (omega arith) (j - n) ∙ ap (λ (m : ℕ). get_or buffer m 0) (sym k);
      long = ap length written ∙ length_overwrite buffer 0 row (omega arith);
      value_is = ap (value_of file) (ap (take n) written ∙ written_first buffer row n long) ∙ value_of_result op file first second (length buffer) is;
    }
