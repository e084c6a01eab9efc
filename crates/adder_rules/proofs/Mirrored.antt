-- Mirrored tables: the result of the negated rows is the negated result, digit by digit, with the same facts; which rows have a negated one,
-- and its value.
use mathlib.Core.Path.{◌≡◌, refl, sym, ap, ap₂, ◌∙◌}
use mathlib.Core.List.{List, [], ◌∷◌, map}
use Prim.Native.Nat.{ℕ, zero, suc, ◌+◌, ◌<◌, ◌≤◌}
use native.Mathlib.Decide.{dec_lt}
use native.Mathlib.Nat.{not-suc-le-zero}
use native.Mathlib.Omega.{arith}
use lib.ListN.{length, get_or, take, length-take}
use lib.Seq.{get_or-take}
use lib.IntN.{ℤ}
use Rattle.lists.proofs.Cons.{cons≡}
use Rattle.faults.specs.Outcome.{facts}
use Rattle.ring.specs.Padded.{width}
use Rattle.ring.specs.Element.{negative}
use Rattle.ring.specs.declared.Operation.{Operation}
use Rattle.ring.specs.Operation.{combine}
use Rattle.ring.proofs.Element.{negative_zeros}
use Rattle.ring.proofs.Combined.{combine_negative}
use Rattle.digit_rules.specs.Record.{record_at}
use Rattle.digit_rules.specs.Broken.{Symmetric}
use Rattle.digit_rules.proofs.Record.{element_parts}
use Rattle.numeration.specs.Code.{Inputs}
use Rattle.numeration.specs.Laws.{HasParts}
use Rattle.numeration.specs.Value.{value}
use Rattle.numeration.proofs.Elements.{elements_group, negative_keeps}
use Rattle.numeration.proofs.Sums.{elements_map, value_mapped}
use Rattle.numeration.proofs.Mirrored.{convert_mirrored, reach_mirrored}
use Rattle.reader_rules.specs.Table.{alphabet_part, input_part, input_count, leaves_in, operations_of, value_of}
use Rattle.reader_rules.specs.TableFacts.{table_facts}
use Rattle.reader_rules.specs.Mirrored.{MirroredTable}
use Rattle.reader_rules.proofs.Formed.{well_formed}
use Rattle.reader_rules.proofs.Kept.{no_number}
use Rattle.reader_rules.proofs.Ready.{ready_passed}
use Rattle.row_rules.specs.Fit.{Indexes}
use Rattle.row_rules.specs.Rows.{RowsFit}
use Rattle.row_rules.proofs.Broken.{rows_pass}
use Rattle.table_rules.specs.Check.{check_facts, check_outcome}
use Rattle.adder_rules.specs.declared.AddedFacts.{AddedFacts}
use Rattle.adder_rules.specs.Sum.{digit_count, place_count, row_digit, row_reach}
use Rattle.adder_rules.specs.Input.{input_row}
use Rattle.adder_rules.specs.Add.{result_outcome, result_in}
use Rattle.adder_rules.specs.Combined.{Combined}
use Rattle.adder_rules.specs.Mirrored.{Negated, NegatedResult}
use Rattle.adder_rules.proofs.Accepted.{row_inputs, accepted_gives}
use Rattle.adder_rules.proofs.Combined.{Passed, passed, digits_combined, combined}
use Rattle.adder_rules.proofs.Demand.{demand_1}
use Rattle.adder_rules.proofs.Reused.{result_indexes}

module _ (op : Operation) (file first second buffer : List ℕ) (f : AddedFacts) (given : result_outcome op file first second (length buffer) ≡ facts f)
    (other another lent : List ℕ) (minus_first : Negated file first other) (minus_second : Negated file second another) (room : place_count file first ≤ length lent) where
  is : Passed op file first second (length buffer)
  is = passed op file first second (length buffer) f given

  -- the negated rows pass 20 to 23
  fit : RowsFit other another (length lent) (digit_count file) (table_facts file).depth
  fit =
      let rows = is.fit in
      record {
        same_length = minus_second.long ∙ rows.same_length ∙ sym minus_first.long;
        short = omega (arith, minus_first.long, rows.short);
        first_indexes = minus_first.indexes;
        second_indexes = minus_second.indexes;
        room = omega (arith, minus_first.long, room);
      }

  row : List ℕ
  row = input_row op file first second

  negated_row : List ℕ
  negated_row = input_row op file other another

  -- and make the negated input digits
  input_negated : (j : ℕ) → record_at (input_part file) (get_or negated_row j 0) ≡ negative (record_at (input_part file) (get_or row j 0))
  unfolding row negated_row
  input_negated j =
      let all = digits_combined op file first second (length buffer) is.table is.asked is.fit in
      let also = digits_combined op file other another (length lent) is.table is.asked fit in
      elim (dec_lt j (length first)) [
        | yes h ↦ also.inside j (omega (arith, minus_first.long)) ∙ ap₂ (combine op) (minus_first.digits j h) (minus_second.digits j (omega (arith, is.fit.same_length))) ∙ combine_negative op _ _ ∙ ap negative (sym (all.inside j h))
        | no h ↦ also.outside j (omega (arith, minus_first.long)) ∙ sym (negative_zeros width) ∙ ap negative (sym (all.outside j (omega arith)))
      ]

  inputs : Inputs (input_count file) row
  unfolding row
  inputs = row_inputs op file first second (length buffer) is.table is.asked is.fit

  negated_inputs : Inputs (input_count file) negated_row
  unfolding negated_row
  negated_inputs = row_inputs op file other another (length lent) is.table is.asked fit

  places_same : place_count file other ≡ place_count file first
  places_same = ap (λ (n : ℕ). n + (table_facts file).depth) minus_first.long

  module _ (mirrored : MirroredTable file) where
    once : (i j : ℕ) → i < input_count file → j < input_count file → record_at (input_part file) i ≡ record_at (input_part file) j → i ≡ j
    once = ((well_formed file).1 is.table).digits.input_digits.distinct

    -- of which come the negated digits, with the same reach
    digit_negated : (j : ℕ) → row_digit file negated_row j ≡ negative (row_digit file row j)
    digit_negated =
        let ready = ready_passed file is.table in
        convert_mirrored negative (record_at (input_part file)) (leaves_in file) (input_count file) ready.code once mirrored row negated_row inputs negated_inputs input_negated (operations_of file) (HasParts width) ready.group ready.in_group (negative_keeps _ _)

    reach_same : row_reach file negated_row 0 (place_count file other) ≡ row_reach file row 0 (place_count file first)
    reach_same =
        reach_mirrored negative (record_at (input_part file)) (leaves_in file) (input_count file) (ready_passed file is.table).code once mirrored row negated_row inputs negated_inputs input_negated 0 (place_count file other) ∙ ap (row_reach file row 0) places_same

    result_negated : check_outcome file ≡ facts (check_facts file) → NegatedResult op file first second buffer f other another lent
    unfolding row negated_row
    result_negated accepted = record { same_facts = answer; negated = record { long = long; indexes = result_indexes op file other another lent right; digits = digits } }
      where
        answer : result_outcome op file other another (length lent) ≡ facts f
        answer =
            accepted_gives file accepted op other another (length lent) (no_number _ (rows_pass _ _ _ _ _ fit)) is.asked
            ∙ (λ i. facts (record { places = places_same i; reach = reach_same i }))
            ∙ ap facts (sym ((demand_1 op file first second (length buffer)).only_facts f given))

        left : Combined op file first second buffer
        left = combined op file first second buffer f given

        right : Combined op file other another lent
        right = combined op file other another lent f answer

        long : length (take (place_count file other) (result_in op file other another lent)) ≡ length (take (place_count file first) (result_in op file first second buffer))
        long = omega (arith, length-take (place_count file other) (result_in op file other another lent), length-take (place_count file first) (result_in op file first second buffer), places_same, right.long, left.long, room, is.fit.room)

        digits : (j : ℕ) → j < length (take (place_count file first) (result_in op file first second buffer))
            → record_at (alphabet_part file) (get_or (take (place_count file other) (result_in op file other another lent)) j 0) ≡ negative (record_at (alphabet_part file) (get_or (take (place_count file first) (result_in op file first second buffer)) j 0))
        digits j h =
            let low : j < place_count file first = omega (arith, length-take (place_count file first) (result_in op file first second buffer)) in
            let also : j < place_count file other = omega (arith, places_same) in
            ap (record_at (alphabet_part file)) (get_or-take (place_count file other) (result_in op file other another lent) j 0 also)
            ∙ right.digit j also
            ∙ digit_negated j
            ∙ ap negative (sym (left.digit j low) ∙ ap (record_at (alphabet_part file)) (sym (get_or-take (place_count file first) (result_in op file first second buffer) j 0 low)))

-- With an accepted table that is mirrored, rows with every digit negated get the negated result, digit by digit, in addition and in
-- subtraction, and the same facts.
pub mirrored_result : (op : Operation) (file : List ℕ) → check_outcome file ≡ facts (check_facts file) → MirroredTable file
    → (first second buffer : List ℕ) (f : AddedFacts) → result_outcome op file first second (length buffer) ≡ facts f
    → (other another lent : List ℕ) → Negated file first other → Negated file second another → place_count file first ≤ length lent
    → NegatedResult op file first second buffer f other another lent
mirrored_result op file accepted mirrored first second buffer f given other another lent minus_first minus_second room =
    result_negated op file first second buffer f given other another lent minus_first minus_second room mirrored accepted

-- Where the alphabet is symmetric every row has a negated one.
pub negated_row_exists : (file : List ℕ) → Symmetric (alphabet_part file) → (row : List ℕ) → Indexes (digit_count file) row → (other : List ℕ) × Negated file row other
negated_row_exists file symmetric [] all = ([], record { long = refl; indexes = λ j h. absurd (not-suc-le-zero h); digits = λ j h. absurd (not-suc-le-zero h) })
negated_row_exists file symmetric (d ∷ row) all =
    let (i, low, e) = symmetric d (all 0 (omega arith)) in
    let (other, is) = negated_row_exists file symmetric row (λ j h. all (suc j) (omega arith)) in
    (i ∷ other, above i other low e is)
  where
    above : (i : ℕ) (other : List ℕ) → i < digit_count file → record_at (alphabet_part file) i ≡ negative (record_at (alphabet_part file) d) → Negated file row other → Negated file (d ∷ row) (i ∷ other)
    above i other low e is = record { long = ap suc is.long; indexes = indexes; digits = digits }
      where
        indexes : Indexes (digit_count file) (i ∷ other)
        indexes zero h = low
        indexes (suc j) h = is.indexes j (omega arith)

        digits : (j : ℕ) → j < suc (length row) → record_at (alphabet_part file) (get_or (i ∷ other) j 0) ≡ negative (record_at (alphabet_part file) (get_or (d ∷ row) j 0))
        digits zero h = e
        digits (suc j) h = is.digits j (omega arith)

map_negated : (a : ℕ → List ℤ) (row other : List ℕ) → length other ≡ length row → ((j : ℕ) → j < length row → a (get_or other j 0) ≡ negative (a (get_or row j 0))) → map a other ≡ map negative (map a row)
map_negated a [] [] e h = refl
map_negated a [] (d ∷ other) e h = absurd (omega arith)
map_negated a (d ∷ row) [] e h = absurd (omega arith)
map_negated a (d ∷ row) (b ∷ other) e h = cons≡ (h 0 (omega arith)) (map_negated a row other (omega arith) (λ j l. h (suc j) (omega arith)))

-- The value of a negated row is the negated value.
pub value_negated : (file row other : List ℕ) → Negated file row other → value_of file other ≡ negative (value_of file row)
value_negated file row other is =
    let o = operations_of file in
    let a : ℕ → List ℤ = record_at (alphabet_part file) in
    ap (value o) (map_negated a row other is.long is.digits)
    ∙ value_mapped o (HasParts width) (elements_group _ _) negative (negative_keeps _ _) (map a row) (elements_map o (HasParts width) (elements_group _ _) a (λ i. element_parts (alphabet_part file) _) row)
