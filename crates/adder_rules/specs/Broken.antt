-- What it means that rule 27 of document 01 is broken at a place, with no test and no search; the rules of addition and of subtraction
-- in their order.
use Rattle.std.specs.Prelude.{List, [], ◌∷◌, ℕ, ◌+◌, ◌<◌, ◌≤◌}
use Rattle.faults.specs.Outcome.{author, rows}
use Rattle.faults.specs.Rule.{Rule, rule}
use Rattle.calls.specs.Answers.{Stage, stage}
use Rattle.ring.specs.declared.Operation.{Operation}
use Rattle.digit_rules.specs.Broken.{Listed, operation_rules}
use Rattle.reader_rules.specs.Table.{alphabet_part, input_part}
use Rattle.reader_rules.specs.TableFacts.{table_facts}
use Rattle.reader_rules.specs.Broken.{table_rules}
use Rattle.row_rules.specs.Broken.{row_rules}
use Rattle.adder_rules.specs.Sum.{digit_count, place_count, row_digit}
use Rattle.adder_rules.specs.Input.{input_row}

-- 27: a sum digit isn't in the alphabet (place), of `count` places from `from` on
abbrev pub Broken27 : List ℕ → List ℕ → ℕ → ℕ → ℕ → Type 0
Broken27 file row from count p = (from ≤ p) × (p < from + count) × ¬ (Listed (alphabet_part file) (row_digit file row p))

abbrev pub output_rules : List ℕ → List ℕ → ℕ → ℕ → List Rule
output_rules file row from count = rule 27 (Broken27 file row from count) ∷ []

-- 1 to 13, 20 to 23, in subtraction 42, and "Last, in addition over all places": 27
abbrev pub result_stages : Operation → List ℕ → List ℕ → List ℕ → ℕ → List Stage
result_stages op file first second room =
    stage author (table_rules file)
    ∷ stage rows (row_rules first second room (digit_count file) (table_facts file).depth)
    ∷ stage author (operation_rules op (alphabet_part file) (input_part file))
    ∷ stage author (output_rules file (input_row op file first second) 0 (place_count file first))
    ∷ []
