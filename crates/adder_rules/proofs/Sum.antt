-- The outcome of an operation and the buffer at exit, as its functions come to them.
use mathlib.Core.Path.{◌≡◌, refl, sym, ap, ◌∙◌}
use mathlib.Core.List.{List}
use Prim.Native.Nat.{ℕ, ◌+◌, ◌<◌, ◌≤◌}
use native.Mathlib.Nat.{zero-add}
use native.Mathlib.Omega.{arith}
use lib.ListN.{length, get_or, take}
use Rattle.lists.specs.Scan.{first_failing}
use Rattle.lists.specs.Overwrite.{overwrite}
use Rattle.faults.specs.declared.Refusal.{Refusal}
use Rattle.faults.specs.Outcome.{Group, Outcome, facts, refused, author, rows, at_exit}
use Rattle.faults.proofs.Exit.{exit_lent}
use Rattle.faults.specs.Unless.{unless}
use Rattle.faults.specs.Check.{refusal, none}
use Rattle.faults.proofs.Unless.{unless_found, unless_none}
use Rattle.ring.specs.declared.Operation.{Operation}
use Rattle.digit_rules.specs.Digits.{operation_check}
use Rattle.reader_rules.specs.Table.{alphabet_part, input_part}
use Rattle.reader_rules.specs.TableFacts.{table_facts}
use Rattle.reader_rules.specs.Check.{table_check, read_outcome}
use Rattle.reader_rules.proofs.Answer.{read_fault}
use Rattle.row_rules.specs.Check.{row_check}
use Rattle.adder_rules.specs.declared.AddedFacts.{AddedFacts}
use Rattle.adder_rules.specs.Sum.{digit_count, place_count, row_reach, result_facts}
use Rattle.adder_rules.specs.Input.{input_row}
use Rattle.adder_rules.specs.Add.{row_allowed, row_part, result_row, digits_outcome, asked_outcome, result_outcome, result_in}
use Rattle.adder_rules.proofs.Part.{check_refused, check_kept, reach_found, part_found, part_room}

module _ (op : Operation) (file first second : List ℕ) where
  -- by a row with the entries of the row of input indexes
  module _ (row : List ℕ) (same : (k : ℕ) → get_or row k 0 ≡ get_or (input_row op file first second) k 0) (places : ℕ) (all : places ≡ place_count file first)
      (found : ℕ) (first_outside : found ≡ first_failing (λ k. row_allowed file row (0 + k)) 0 places) where
    abbrev given : Outcome AddedFacts
    given = facts (result_facts op file first second)

    at : found ≡ first_failing (λ k. row_allowed file row (0 + k)) 0 (place_count file first)
    at = first_outside ∙ ap (first_failing (λ k. row_allowed file row (0 + k)) 0) all

    -- 27 at the first place whose digit isn't in the alphabet
    pub digits_refused : found < places → refused author 27 found ≡ digits_outcome op file first second
    unfolding digits_outcome
    digits_refused h =
        let is = check_refused file row (input_row op file first second) 0 (place_count file first) (λ k low high. same k) found at (omega arith) in
        ap (refused author 27) (sym (zero-add found)) ∙ sym (ap (λ (r : Refusal). unless author r given) is ∙ unless_found author (refusal 27 (0 + found)) given (λ z. omega (arith, z)))

    pub digits_given : (reach : ℕ) → reach ≡ row_reach file row 0 found → places ≤ found → facts (record { places = places; reach = reach }) ≡ digits_outcome op file first second
    unfolding digits_outcome
    digits_given reach longest h =
        let is = check_kept file row (input_row op file first second) 0 (place_count file first) (λ k low high. same k) found at (omega arith) in
        let reached : reach ≡ row_reach file (input_row op file first second) 0 (place_count file first) = longest ∙ reach_found file row (input_row op file first second) 0 (place_count file first) (λ k low high. same k) found at (omega arith) in
        (λ i. facts (record { places = all i; reach = reached i })) ∙ sym (ap (λ (r : Refusal). unless author r given) is ∙ unless_none author none given refl)

    -- the digits found, as a buffer's first bytes hold them
    pub digits_found : (s : List ℕ) → places ≤ found → take places (overwrite s 0 (row_part file row 0 found)) ≡ result_row op file first second
    unfolding result_row
    digits_found s h =
        ap (λ (n : ℕ). take n (overwrite s 0 (row_part file row 0 found))) all ∙ part_found file row (input_row op file first second) 0 (place_count file first) (λ k low high. same k) found at s (omega arith)

    pub digits_room : (s : List ℕ) → places ≤ length s → length (overwrite s 0 (row_part file row 0 found)) ≡ length s
    digits_room s h = part_room file row (input_row op file first second) 0 (place_count file first) (λ k low high. same k) found at s (omega arith)

  -- a faulty table's fault is passed on
  pub table_refused : (room : ℕ) (g : Group) (n p : ℕ) → refused g n p ≡ read_outcome file → refused g n p ≡ result_outcome op file first second room
  unfolding result_outcome
  table_refused room g n p e = read_fault AddedFacts file g n p _ e

  -- what the operation asks, and what follows
  pub operation_stage : unless author (operation_check op (alphabet_part file) (input_part file)) (digits_outcome op file first second) ≡ asked_outcome op file first second
  unfolding asked_outcome
  operation_stage = refl

  pub operation_passed : (operation_check op (alphabet_part file) (input_part file)).number ≡ 0 → digits_outcome op file first second ≡ asked_outcome op file first second
  unfolding asked_outcome
  operation_passed none = sym (unless_none author _ (digits_outcome op file first second) none)

  -- 20 to 23, and what follows
  pub rows_stage : (room : ℕ) → (table_check file).number ≡ 0 → unless rows (row_check first second room (digit_count file) (table_facts file).depth) (asked_outcome op file first second) ≡ result_outcome op file first second room
  unfolding result_outcome
  rows_stage room passes = sym (unless_none author (table_check file) _ passes)

  pub rows_passed : (room : ℕ) → (table_check file).number ≡ 0 → (row_check first second room (digit_count file) (table_facts file).depth).number ≡ 0 → asked_outcome op file first second ≡ result_outcome op file first second room
  rows_passed room passes none = sym (unless_none rows _ (asked_outcome op file first second) none) ∙ rows_stage room passes

  -- the buffer by the outcome
  pub buffer_lent : (buffer : List ℕ) (g : Group) (n p : ℕ) → refused g n p ≡ result_outcome op file first second (length buffer) → buffer ≡ result_in op file first second buffer
  unfolding result_in
  buffer_lent buffer g n p e = exit_lent (result_outcome op file first second (length buffer)) g n p buffer _ e

  pub buffer_by : (buffer : List ℕ) → asked_outcome op file first second ≡ result_outcome op file first second (length buffer)
      → at_exit (asked_outcome op file first second) buffer (overwrite buffer 0 (result_row op file first second)) ≡ result_in op file first second buffer
  unfolding result_in
  buffer_by buffer e = ap (λ o. at_exit o buffer (overwrite buffer 0 (result_row op file first second))) e
