-- The rules of the value call in their order.
use Rattle.std.specs.Prelude.{List, [], ◌∷◌, ◌++◌, ℕ}
use Rattle.faults.specs.Rule.{Rule}
use Rattle.faults.specs.Outcome.{author, rows}
use Rattle.calls.specs.Answers.{Stage, stage}
use Rattle.digit_rules.specs.BaseMatrix.{base_matrix}
use Rattle.digit_rules.specs.Record.{element_count}
use Rattle.reader_rules.specs.Table.{base_part, alphabet_part}
use Rattle.reader_rules.specs.Broken.{table_rules}
use Rattle.row_rules.specs.Broken.{one_row_rules}
use Rattle.row_value_rules.specs.Broken.{value_rules}

-- 20, 21 and 28 in their order
abbrev pub lender_rules : List ℕ → List ℕ → List Rule
lender_rules table row =
    one_row_rules row (element_count (alphabet_part table)) ++ value_rules (base_matrix (base_part table)) (alphabet_part table) row

-- 1 to 13, then the rows' rules
abbrev pub value_stages : List ℕ → List ℕ → List Stage
value_stages table row = stage author (table_rules table) ∷ stage rows (lender_rules table row) ∷ []
