-- Pinned by demand_1, refused_lent and combined (proofs/Demand.antt, proofs/Combined.antt): a reader may skip this file. Addition and
-- subtraction as one function of the operation, the table file, the rows and the buffer.
use Rattle.std.specs.Prelude.{Bool, List, ℕ, ◌+◌, length}
use Rattle.lists.specs.Span.{span}
use Rattle.lists.specs.Overwrite.{overwrite}
use Rattle.faults.specs.declared.Refusal.{Refusal}
use Rattle.faults.specs.Check.{judge}
use Rattle.faults.specs.Outcome.{Outcome, facts, author, rows, at_exit}
use Rattle.faults.specs.Unless.{unless}
use Rattle.ring.specs.declared.Operation.{Operation}
use Rattle.digit_rules.specs.Digits.{operation_check}
use Rattle.reader_rules.specs.Table.{alphabet_part, input_part, leaf_part, word_part, operations_of}
use Rattle.reader_rules.specs.TableFacts.{table_facts}
use Rattle.reader_rules.specs.Check.{table_check}
use Rattle.row_rules.specs.Check.{row_check}
use Rattle.place_rules.specs.Place.{digit_allowed}
use Rattle.adder_rules.specs.declared.AddedFacts.{AddedFacts}
use Rattle.adder_rules.specs.Sum.{digit_count, place_count, result_facts}
use Rattle.adder_rules.specs.Input.{input_row, row_index}

module _ (file : List ℕ) where
  -- of a row of input indexes: whether z(j) has an alphabet index
  module _ (row : List ℕ) where
    abbrev pub row_allowed : ℕ → Bool
    row_allowed j = digit_allowed (operations_of file) (alphabet_part file) (input_part file) (leaf_part file) (word_part file) row j

    -- the indexes at `count` places from p on
    unfoldable pub row_part : ℕ → ℕ → List ℕ
    row_part p count = span (λ k. row_index file row (p + k)) 0 count

    -- 27 over these places: a sum digit isn't in the alphabet (place)
    unfoldable pub output_check : ℕ → ℕ → Refusal
    output_check p count = judge 27 (λ k. p + k) (λ k. row_allowed (p + k)) count

module _ (op : Operation) (file first second : List ℕ) where
  -- "the sum row": z(j) for j from 0 to n + h − 1
  unfoldable pub result_row : List ℕ
  result_row = row_part file (input_row op file first second) 0 (place_count file first)

  -- 27 over all places, then the facts
  unfoldable pub digits_outcome : Outcome AddedFacts
  digits_outcome = unless author (output_check file (input_row op file first second) 0 (place_count file first)) (facts (result_facts op file first second))

  -- before it what the operation asks: in subtraction 42
  unfoldable pub asked_outcome : Outcome AddedFacts
  asked_outcome = unless author (operation_check op (alphabet_part file) (input_part file)) digits_outcome

  -- before that 1 to 13, and 20 to 23 with the buffer's length
  unfoldable pub result_outcome : ℕ → Outcome AddedFacts
  result_outcome room =
      unless author (table_check file) (unless rows (row_check first second room (digit_count file) (table_facts file).depth) asked_outcome)

  -- "Addition writes the first n + h bytes of the sum buffer, the sum row; further bytes keep their contents", and so does subtraction
  unfoldable pub result_in : List ℕ → List ℕ
  result_in buffer = at_exit (result_outcome (length buffer)) buffer (overwrite buffer 0 result_row)
