-- Pinned by demand_1 (proofs/Demand.antt): a reader may skip this file. The value call ("Value, midpoint, program" of document 01): "takes a table and one row: 1 to 13, 20, 21, then 28 (rows group)".
use Rattle.std.specs.Prelude.{List, ℕ, ℤ}
use Rattle.faults.specs.Outcome.{Outcome, author, rows}
use Rattle.faults.specs.Unless.{unless}
use Rattle.digit_rules.specs.BaseMatrix.{base_matrix}
use Rattle.digit_rules.specs.Record.{element_count}
use Rattle.reader_rules.specs.Table.{base_part, alphabet_part}
use Rattle.reader_rules.specs.Check.{table_check}
use Rattle.row_rules.specs.Check.{one_row_check}
use Rattle.row_value_rules.specs.Total.{worth_of}

-- 20, 21, then 28
unfoldable pub row_outcome : List ℕ → List ℕ → Outcome (List ℤ)
row_outcome table row =
    unless rows (one_row_check row (element_count (alphabet_part table))) (worth_of (base_matrix (base_part table)) (alphabet_part table) row)

-- for every table and row: 1 to 13 before
unfoldable pub value_outcome : List ℕ → List ℕ → Outcome (List ℤ)
value_outcome table row = unless author (table_check table) (row_outcome table row)
