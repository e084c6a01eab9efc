-- What a row that is shown does (document 02, job 5): "In every row that holds this string, conversion gives that digit at its top place."
use mathlib.Core.Path.{◌≡◌, refl, sym, ap, subst, ◌∙◌}
use mathlib.Core.List.{List}
use Prim.Native.Nat.{ℕ, suc, ◌*◌, ◌<◌, ◌≤◌, pred}
use native.Mathlib.Omega.{arith}
use native.Mathlib.Decide.{dec_lt}
use lib.ListN.{length, take}
use lib.IntN.{ℤ}
use Rattle.lists.proofs.Span.{length_span}
use Rattle.faults.specs.Outcome.{facts, refused, author}
use Rattle.ring.specs.declared.Operation.{Operation}
use Rattle.ring.specs.declared.Operation.TheVariants.{Plus}
use Rattle.ring.specs.Element.{plus}
use Rattle.ring.specs.Padded.{width}
use Rattle.ring.proofs.Element.{zeros_plus}
use Rattle.layout_rules.specs.Section.{element_size, degree_in}
use Rattle.digit_rules.specs.Broken.{Listed}
use Rattle.digit_rules.specs.Digits.{operation_check}
use Rattle.digit_rules.specs.Record.{record_at}
use Rattle.digit_rules.proofs.Record.{element_parts}
use Rattle.numeration.specs.Code.{Inputs}
use Rattle.numeration.specs.Held.{Holds, Finds}
use Rattle.numeration.specs.PairTests.{pair_bottom, pair_row}
use Rattle.numeration.proofs.Pairs.{length_pair_string, convert_string, pair_row_holds, pair_row_inputs}
use Rattle.numeration.proofs.Shown.{string_finds, string_shortest}
use Rattle.reader_rules.specs.Table.{alphabet_part, input_part, operations_of, input_count, leaves_in}
use Rattle.reader_rules.specs.TableFacts.{table_facts}
use Rattle.reader_rules.specs.Check.{table_check}
use Rattle.reader_rules.specs.Ready.{Ready}
use Rattle.reader_rules.proofs.Formed.{well_formed}
use Rattle.reader_rules.proofs.Ready.{ready_passed}
use Rattle.row_rules.specs.Check.{row_check}
use Rattle.adder_rules.specs.Sum.{digit_count, row_digit}
use Rattle.adder_rules.specs.Input.{input_row}
use Rattle.adder_rules.specs.Add.{result_outcome}
use Rattle.adder_rules.proofs.Table.{all_listed}
use Rattle.table_rules.specs.declared.Pair.{Pair}
use Rattle.table_rules.specs.Check.{bad_pair_of}
use Rattle.bad_row_rules.specs.Shows.{RowFacts, row}
use Rattle.bad_row_rules.specs.BadRow.{string_of, bad_row_outcome, bad_row_in}
use Rattle.bad_row_rules.proofs.Shows.{Failing, fails_first}
use Rattle.bad_row_rules.proofs.Row.{told_passes, pair_there, row_is, string_taken}
use Rattle.bad_row_rules.proofs.Addition.{refused_27}

-- a table has two input digits or more: zero, and the sum of zero and another alphabet digit
module _ (table : List ℕ) (read : (table_check table).number ≡ 0) where
  abbrev digit : ℕ → List ℤ
  digit k = record_at (alphabet_part table) k

  some_sum : Listed (input_part table) (plus (digit 0) (digit 1))
  unfolding operation_check
  some_sum =
      let count = (ready_passed table read).alphabet_count.0 in
      all_listed table read Plus refl 0 1 (omega arith) (omega arith)

  sum_is : plus (digit 0) (digit 1) ≡ digit 1
  sum_is =
      ap (λ x. plus x (digit 1)) (ready_passed table read).alphabet_zero
      ∙ zeros_plus (digit 1) width (omega (arith, element_parts (alphabet_part table) (1 * element_size (degree_in table))))

  two_inputs : 1 < input_count table
  two_inputs =
      elim (dec_lt 1 (input_count table)) [
        | yes h ↦ h
        | no h ↦ let ready = ready_passed table read in
            let (k, there, e) = some_sum in
            let zero : k ≡ 0 = omega arith in
            let same : digit 1 ≡ digit 0 = sym sum_is ∙ sym e ∙ ap (record_at (input_part table)) zero ∙ ready.input_zero ∙ sym ready.alphabet_zero in
            absurd (omega (arith, ((well_formed table).1 read).digits.alphabet_digits.distinct 1 0 (omega (arith, ready.alphabet_count.0)) (omega (arith, ready.alphabet_count.0)) same))
      ]

-- a table, the facts that are shown of it, and the bytes that were lent for the string
module _ (table : List ℕ) (f : RowFacts) (shown : bad_row_outcome table ≡ facts (row f)) (lent : List ℕ) where
  abbrev pub string : List ℕ
  string = take f.bytes (bad_row_in table lent)

  read : (table_check table).number ≡ 0
  read = told_passes table (row f) shown

  is : Ready table
  is = ready_passed table read

  abbrev pair : Pair
  pair = bad_pair_of table

  first : Failing table pair
  first = fails_first table pair refl (pair_there table f shown)

  held : (digits : List ℕ) (j : ℕ) → Holds digits j string → Holds digits j (string_of table pair)
  held digits j = subst (Holds digits j) (string_taken table f shown lent)

  -- In every row that holds the string with its top at place j, conversion gives that digit at j,
  pub digit_at : (digits : List ℕ) (j : ℕ) → Holds digits j string → row_digit table digits j ≡ f.digit
  digit_at digits j holds =
      convert_string (operations_of table) (record_at (input_part table)) (leaves_in table) (input_count table) is.code pair.upper pair.lower first.upper_there first.lower_there first.fit digits j (held digits j holds)
      ∙ ap (λ (g : RowFacts). g.digit) (sym (row_is table f shown))

  -- and that digit isn't in the alphabet.
  pub digit_outside : ¬ (Listed (alphabet_part table) f.digit)
  digit_outside = subst (λ (g : RowFacts). ¬ (Listed (alphabet_part table) g.digit)) (sym (row_is table f shown)) first.not_listed

  -- So addition of rows whose sums are such a row is refused with 27 at or below j, and so is subtraction where their differences are.
  pub sum_refused : (op : Operation) (one other : List ℕ) (room j : ℕ) → (row_check one other room (digit_count table) (table_facts table).depth).number ≡ 0 → (operation_check op (alphabet_part table) (input_part table)).number ≡ 0
      → Holds (input_row op table one other) j string → (p : ℕ) × (p ≤ j) × (result_outcome op table one other room ≡ refused author 27 p)
  sum_refused op one other room j rows asked holds =
      refused_27 table read op one other room rows asked j (λ l. digit_outside (subst (Listed (alphabet_part table)) (digit_at (input_row op table one other) j holds) l))

  -- The string itself, as a row of input digits, is one: its top at its highest place.
  pub string_row : (digits : List ℕ) × Inputs (input_count table) digits × (length digits ≡ f.bytes) × Holds digits (pred f.bytes) string
  unfolding pair_row
  string_row =
      let c = leaves_in table in
      let long : f.bytes ≡ suc (pair_bottom c pair.upper pair.lower) = ap (λ (g : RowFacts). g.bytes) (row_is table f shown) ∙ length_pair_string c pair.upper pair.lower in (
        pair_row c pair.upper pair.lower,
        pair_row_inputs c (input_count table) pair.upper pair.lower is.code first.upper_there first.lower_there,
        length_span _ 0 (suc (pair_bottom c pair.upper pair.lower)) ∙ sym long,
        subst (λ (s : List ℕ). Holds (pair_row c pair.upper pair.lower) (pred f.bytes) s) (sym (string_taken table f shown lent))
            (subst (λ (j : ℕ). Holds (pair_row c pair.upper pair.lower) j (string_of table pair)) (sym (ap pred long)) (pair_row_holds c pair.upper pair.lower)),
      )

  -- It has just the digits that the two look-ups read: they find U and L in every row that holds it,
  pub look_ups_find : (digits : List ℕ) (j : ℕ) → Holds digits j string → Finds (leaves_in table) f.upper f.lower digits j
  look_ups_find digits j holds =
      subst (λ (g : RowFacts). Finds (leaves_in table) g.upper g.lower digits j) (sym (row_is table f shown)) (string_finds (leaves_in table) (input_count table) is.code pair.upper pair.lower first.upper_there first.lower_there first.fit digits j (held digits j holds))

  -- and a string of input digits that sees to that is at least as long.
  pub as_short : (s : List ℕ) → Inputs (input_count table) s → ((digits : List ℕ) → Inputs (input_count table) digits → (j : ℕ) → Holds digits j s → Finds (leaves_in table) f.upper f.lower digits j) → f.bytes ≤ length s
  as_short s inputs finds =
      let c = leaves_in table in
      let same = row_is table f shown in
      omega (arith, ap (λ (g : RowFacts). g.bytes) same, string_shortest c (input_count table) is.code pair.upper pair.lower (two_inputs table read) s inputs (λ digits all j holds. subst (λ (g : RowFacts). Finds c g.upper g.lower digits j) same (finds digits all j holds)))
