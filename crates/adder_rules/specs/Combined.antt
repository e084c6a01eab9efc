-- What addition and subtraction leave in the lent buffer where they aren't refused, as plain statements.
use Rattle.std.specs.Prelude.{◌≡◌, List, ℕ, ◌<◌, ◌≤◌, length, get_or, take}
use Rattle.ring.specs.Padded.{width}
use Rattle.ring.specs.Element.{zeros}
use Rattle.ring.specs.declared.Operation.{Operation}
use Rattle.ring.specs.Operation.{combine}
use Rattle.digit_rules.specs.Record.{record_at}
use Rattle.reader_rules.specs.Table.{alphabet_part, input_part, value_of}
use Rattle.adder_rules.specs.Sum.{digit_count, place_count, row_digit}
use Rattle.adder_rules.specs.Input.{input_row, row_index}
use Rattle.adder_rules.specs.Add.{result_in}

-- "w(j) is the sum of the two digits at place j, and zero outside 0 to n − 1", in subtraction the first minus the second: the elements of
-- the input indexes that are converted
pub record DigitsCombined (op : Operation) (file first second : List ℕ) : Type 0 where
  pub inside : (j : ℕ) → j < length first
      → record_at (input_part file) (get_or (input_row op file first second) j 0) ≡ combine op (record_at (alphabet_part file) (get_or first j 0)) (record_at (alphabet_part file) (get_or second j 0))
  pub outside : (j : ℕ) → length first ≤ j → record_at (input_part file) (get_or (input_row op file first second) j 0) ≡ zeros width

pub record Combined (op : Operation) (file first second buffer : List ℕ) : Type 0 where
  pub inputs : DigitsCombined op file first second
  -- byte j is the alphabet index of z(j), for every j below n + h
  pub index : (j : ℕ) → j < place_count file first → get_or (result_in op file first second buffer) j 0 ≡ row_index file (input_row op file first second) j
  pub within_alphabet : (j : ℕ) → j < place_count file first → get_or (result_in op file first second buffer) j 0 < digit_count file
  pub digit : (j : ℕ) → j < place_count file first → record_at (alphabet_part file) (get_or (result_in op file first second buffer) j 0) ≡ row_digit file (input_row op file first second) j
  -- "further bytes keep their contents"
  pub further : (j : ℕ) → place_count file first ≤ j → get_or (result_in op file first second buffer) j 0 ≡ get_or buffer j 0
  pub long : length (result_in op file first second buffer) ≡ length buffer
  -- the value of the sum is the sum of the values, and that of the difference the first row's minus the second's
  pub value_is : value_of file (take (place_count file first) (result_in op file first second buffer)) ≡ combine op (value_of file first) (value_of file second)
