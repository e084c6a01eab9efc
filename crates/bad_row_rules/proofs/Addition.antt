-- Addition, or subtraction, of rows that give a digit outside the alphabet: refused with 27 there or below.
use mathlib.Core.Path.{◌≡◌, sym, ap, ◌∙◌}
use mathlib.Core.List.{List}
use mathlib.Core.Logic.{inl, inr}
use Prim.Native.Nat.{ℕ, ◌+◌, ◌<◌, ◌≤◌}
use native.Mathlib.Omega.{arith}
use native.Mathlib.Decide.{dec_lt}
use lib.ListN.{length}
use Rattle.lists.proofs.Span.{length_span}
use Rattle.faults.specs.declared.Refusal.{Refusal}
use Rattle.faults.specs.Outcome.{refused, author}
use Rattle.faults.proofs.Rule.{Decided, passes, refuses}
use Rattle.faults.proofs.Unless.{unless_found}
use Rattle.ring.specs.declared.Operation.{Operation}
use Rattle.digit_rules.specs.Broken.{Listed}
use Rattle.digit_rules.specs.Digits.{operation_check}
use Rattle.digit_rules.specs.Record.{record_at}
use Rattle.numeration.specs.Elements.{elements}
use Rattle.numeration.proofs.Ends.{convert_above}
use Rattle.reader_rules.specs.Table.{alphabet_part, input_part, operations_of, input_count, leaves_in}
use Rattle.reader_rules.specs.TableFacts.{table_facts}
use Rattle.reader_rules.specs.Check.{table_check}
use Rattle.reader_rules.proofs.Ready.{ready_passed}
use Rattle.row_rules.specs.Check.{row_check}
use Rattle.adder_rules.specs.Sum.{digit_count, place_count, row_digit}
use Rattle.adder_rules.specs.Input.{input_of, input_row}
use Rattle.adder_rules.specs.Add.{output_check, digits_outcome, result_outcome}
use Rattle.adder_rules.specs.Broken.{output_rules}
use Rattle.adder_rules.proofs.Sum.{operation_passed, rows_passed}
use Rattle.adder_rules.proofs.Demand.{digits_decided}

module _ (table : List ℕ) (read : (table_check table).number ≡ 0) where
  -- the digits from n + h on are zero, which is in the alphabet
  listed_above : (row : List ℕ) (j : ℕ) → length row + (table_facts table).depth ≤ j → Listed (alphabet_part table) (row_digit table row j)
  unfolding table_facts elements
  listed_above row j high =
      let is = ready_passed table read in
      (0, omega (arith, is.alphabet_count.0), is.alphabet_zero ∙ sym (convert_above (operations_of table) _ is.group (record_at (input_part table)) (leaves_in table) (input_count table) is.code is.in_group row j high))

  -- 27 at the first place of a row whose digit isn't in the alphabet, so at or below any such place
  found_27 : (row : List ℕ) (count j : ℕ) → j < count → ¬ (Listed (alphabet_part table) (row_digit table row j)) → (found : Refusal) → Decided (output_rules table row 0 count) found
      → (found.number ≡ 27) × (found.place ≤ j)
  found_27 row count j h outside found (passes e kept) = absurd (kept.0 j (omega arith, omega arith, outside))
  found_27 row count j h outside found (refuses some (inl first)) =
      (first.0, elim (dec_lt j found.place) [ yes l ↦ absurd (first.1.earliest j l (omega arith, omega arith, outside)) | no l ↦ omega arith ])
  found_27 row count j h outside found (refuses some (inr first)) = absurd first.1

  module _ (op : Operation) (first second : List ℕ) (room : ℕ) (rows : (row_check first second room (digit_count table) (table_facts table).depth).number ≡ 0) (asked : (operation_check op (alphabet_part table) (input_part table)).number ≡ 0) where
    abbrev digits : List ℕ
    digits = input_row op table first second

    pub refused_27 : (j : ℕ) → ¬ (Listed (alphabet_part table) (row_digit table digits j)) → (p : ℕ) × (p ≤ j) × (result_outcome op table first second room ≡ refused author 27 p)
    unfolding digits_outcome
    refused_27 j outside =
        let found = output_check table digits 0 (place_count table first) in
        let is = found_27 digits (place_count table first) j inside outside found (digits_decided table digits 0 (place_count table first)) in (
          found.place,
          is.1,
          sym (operation_passed op table first second asked ∙ rows_passed op table first second room read rows)
              ∙ unless_found author found _ (λ z. omega (arith, z, is.0))
              ∙ ap (λ (n : ℕ). refused author n found.place) is.0,
        )
      where
        long : length digits ≡ length first
        long = unfold input_row in length_span (input_of op table first second) 0 (length first)

        inside : j < place_count table first
        inside = elim (dec_lt j (place_count table first)) [ yes h ↦ h | no h ↦ absurd (outside (listed_above digits j (omega (arith, long)))) ]
