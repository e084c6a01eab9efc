-- With a table that the check accepts neither addition nor subtraction says 27.
use mathlib.Core.Path.{◌≡◌, refl, sym, ◌∙◌}
use mathlib.Core.List.{List}
use mathlib.Core.Logic.{inl, inr}
use Prim.Native.Nat.{ℕ, ◌+◌, ◌<◌, ◌≤◌}
use native.Mathlib.Omega.{arith}
use lib.ListN.{length}
use Rattle.layout_rules.specs.Section.{Section}
use Rattle.lists.proofs.Span.{length_span, get_d_span}
use Rattle.faults.specs.Check.{none}
use Rattle.faults.specs.Outcome.{Group, facts, refused, author}
use Rattle.faults.specs.Rule.{Rule, AllKept}
use Rattle.faults.proofs.Numbers.{Numbers, number_of}
use Rattle.faults.proofs.Rule.{exact}
use Rattle.faults.proofs.Unless.{unless_none}
use Rattle.calls.specs.Answers.{FirstFault}
use Rattle.numeration.specs.Code.{Inputs}
use Rattle.ring.specs.declared.Operation.{Operation}
use Rattle.ring.specs.declared.Operation.TheVariants.{Plus, Minus}
use Rattle.digit_rules.specs.Digits.{operation_check}
use Rattle.digit_rules.specs.Broken.{operation_rules}
use Rattle.digit_rules.proofs.Broken.{operation_decided}
use Rattle.reader_rules.specs.Table.{alphabet_part, input_part, input_count}
use Rattle.reader_rules.specs.TableFacts.{table_facts}
use Rattle.reader_rules.specs.Broken.{table_rules}
use Rattle.reader_rules.specs.Check.{table_check}
use Rattle.reader_rules.proofs.Formed.{well_formed}
use Rattle.reader_rules.proofs.Kept.{no_number}
use Rattle.row_rules.specs.Check.{row_check}
use Rattle.row_rules.specs.Rows.{RowsFit}
use Rattle.row_rules.specs.Broken.{row_rules}
use Rattle.row_rules.proofs.Fit.{rows_fit}
use Rattle.row_rules.proofs.Broken.{rows_exact}
use Rattle.table_rules.specs.Check.{check_facts, check_outcome}
use Rattle.table_rules.proofs.Demand.{demand_2}
use Rattle.adder_rules.specs.Sum.{digit_count, place_count, result_facts}
use Rattle.adder_rules.specs.Input.{input_of, input_row}
use Rattle.adder_rules.specs.Add.{output_check, digits_outcome, result_outcome}
use Rattle.adder_rules.specs.Broken.{output_rules, result_stages}
use Rattle.adder_rules.proofs.Rows.{inputs_below}
use Rattle.adder_rules.proofs.Sum.{operation_passed, rows_passed}
use Rattle.adder_rules.proofs.Demand.{digits_decided, demand_1}

-- the row of input indexes has no other bytes
pub row_inputs : (op : Operation) (file first second : List ℕ) (room : ℕ) → (table_check file).number ≡ 0 → (operation_check op (alphabet_part file) (input_part file)).number ≡ 0 → RowsFit first second room (digit_count file) (table_facts file).depth → Inputs (input_count file) (input_row op file first second)
unfolding input_row
row_inputs op file first second room passes asked fit k h =
    let l : k < length first = omega (arith, length_span (input_of op file first second) 0 (length first)) in
    rw (get_d_span (input_of op file first second) 0 (length first) k 0 l) (inputs_below op file first second room passes asked fit (0 + k) (omega arith))

only_42 : (op : Operation) (alphabet inputs : Section) → Numbers (λ n. n ≡ 42) (operation_rules op alphabet inputs)
only_42 Plus alphabet inputs = tt
only_42 Minus alphabet inputs = (refl, tt)

module _ (file : List ℕ) (accepted : check_outcome file ≡ facts (check_facts file)) where
  pub accepted_passes : (table_check file).number ≡ 0
  accepted_passes = (well_formed file).0 ((demand_2 file).0 accepted).0

  -- no place of any row of input indexes breaks 27
  pub digits_kept : (row : List ℕ) → Inputs (input_count file) row → (from count : ℕ) → output_check file row from count ≡ none
  digits_kept row inputs from count =
      (exact (output_rules file row from count) _ (digits_decided file row from count)).passed.1 (λ p b. b.2 (((demand_2 file).0 accepted).1 row inputs p), tt)

  module _ (op : Operation) (first second : List ℕ) (room : ℕ) where
    -- rows that pass 20 to 23 get their result, where nothing that the operation asks is broken
    pub accepted_gives : (row_check first second room (digit_count file) (table_facts file).depth).number ≡ 0 → (operation_check op (alphabet_part file) (input_part file)).number ≡ 0
        → result_outcome op file first second room ≡ facts (result_facts op file first second)
    unfolding digits_outcome
    accepted_gives z asked =
        let fit = rows_fit first second room (digit_count file) (table_facts file).depth z in
        sym (operation_passed op file first second asked ∙ rows_passed op file first second room accepted_passes z) ∙ unless_none author (output_check file (input_row op file first second) 0 (place_count file first)) _ (no_number _ (digits_kept (input_row op file first second) (row_inputs op file first second room accepted_passes asked fit) 0 (place_count file first)))

    -- With an accepted table 27 is never said.
    pub never_27 : (g : Group) (p : ℕ) → result_outcome op file first second room ≡ refused g 27 p → ⊥
    never_27 g p e = go (((demand_1 op file first second room).first g 27 p (omega arith)).0 e)
      where
        rules : List Rule
        rules = row_rules first second room (digit_count file) (table_facts file).depth

        asked : List Rule
        asked = operation_rules op (alphabet_part file) (input_part file)

        inputs : AllKept rules → AllKept asked → Inputs (input_count file) (input_row op file first second)
        inputs r d =
            let none = no_number _ ((exact asked _ (operation_decided op (alphabet_part file) (input_part file))).passed.1 d) in
            row_inputs op file first second room accepted_passes none (rows_fit _ _ _ _ _ (no_number _ ((rows_exact _ _ _ _ _).passed.1 r)))

        go : FirstFault (result_stages op file first second room) g 27 p → ⊥
        go (inl f) = omega (arith, number_of (λ n. n ≤ 13) (table_rules file) (omega arith) 27 p f.1)
        go (inr (t, inl f)) = omega (arith, number_of (λ n. n ≤ 23) rules (omega arith) 27 p f.1)
        go (inr (t, inr (r, inl f))) = omega (arith, number_of (λ n. n ≡ 42) asked (only_42 op (alphabet_part file) (input_part file)) 27 p f.1)
        go (inr (t, inr (r, inr (d, inl (o, inl b))))) = b.1.broken.2 (((demand_2 file).0 accepted).1 (input_row op file first second) (inputs r d) p)
        go (inr (t, inr (r, inr (d, inl (o, inr b))))) = b.1
        go (inr (t, inr (r, inr (d, inr f)))) = f.1
