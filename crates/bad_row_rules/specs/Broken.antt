-- The rules of the call (document 02, job 5): "Faults 1 to 13 are passed on".
use Rattle.std.specs.Prelude.{List, [], ◌∷◌, ℕ}
use Rattle.faults.specs.Outcome.{author}
use Rattle.calls.specs.Answers.{Stage, stage}
use Rattle.reader_rules.specs.Broken.{table_rules}

abbrev pub bad_row_stages : List ℕ → List Stage
bad_row_stages table = stage author (table_rules table) ∷ []
