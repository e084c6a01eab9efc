-- The rules of the forecast in their order (document 02, job 13): "After 1 to 13, above 256 digits it refuses with 20".
use Rattle.std.specs.Prelude.{List, [], ◌∷◌, ℕ}
use Rattle.faults.specs.Outcome.{author, rows}
use Rattle.calls.specs.Answers.{Stage, stage}
use Rattle.reader_rules.specs.Broken.{table_rules}
use Rattle.row_rules.specs.Broken.{digits_rules}

abbrev pub forecast_stages : List ℕ → ℕ → List Stage
forecast_stages table digits = stage author (table_rules table) ∷ stage rows (digits_rules digits) ∷ []
