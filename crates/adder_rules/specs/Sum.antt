-- The digits of a sum (document 01, "Conversion and addition"), as functions of the table file and of a row of input indexes.
use Rattle.std.specs.Prelude.{List, ℕ, ◌+◌, length, ℤ}
use Rattle.digit_rules.specs.Record.{record_at, element_count}
use Rattle.ring.specs.declared.Operation.{Operation}
use Rattle.numeration.specs.Conversion.{convert}
use Rattle.numeration.specs.ReachOf.{reach_of}
use Rattle.reader_rules.specs.Table.{alphabet_part, input_part, operations_of, leaves_in}
use Rattle.reader_rules.specs.TableFacts.{table_facts}
use Rattle.adder_rules.specs.declared.AddedFacts.{AddedFacts}
use Rattle.adder_rules.specs.Input.{input_row}

module _ (file : List ℕ) where
  -- the alphabet's size, and n + h
  abbrev pub digit_count : ℕ
  digit_count = element_count (alphabet_part file)

  abbrev pub place_count : List ℕ → ℕ
  place_count first = length first + (table_facts file).depth

  -- z(j)
  abbrev pub row_digit : List ℕ → ℕ → List ℤ
  row_digit row j = convert (operations_of file) (record_at (input_part file)) (leaves_in file) row j

  -- "the longest word among the leaves they looked up" for the digits at `count` places from p on: at places p − 1 to p + count − 1, −1 left out
  abbrev pub row_reach : List ℕ → ℕ → ℕ → ℕ
  row_reach row p count = reach_of (leaves_in file) row p count

-- the facts of addition and of subtraction: n + h, and the longest word looked up at places 0 to n + h − 1
abbrev pub result_facts : Operation → List ℕ → List ℕ → List ℕ → AddedFacts
result_facts op file first second = record { places = place_count file first; reach = row_reach file (input_row op file first second) 0 (place_count file first) }
