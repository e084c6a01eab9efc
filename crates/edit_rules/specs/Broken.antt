-- The rules of the edit in their order (document 01, "Who sends a fault").
use Rattle.std.specs.Prelude.{List, [], ◌∷◌, length, ℕ}
use Rattle.faults.specs.Outcome.{author, rows, editor}
use Rattle.calls.specs.Answers.{Stage, stage}
use Rattle.reader_rules.specs.TableFacts.{table_facts}
use Rattle.reader_rules.specs.Broken.{table_rules}
use Rattle.row_rules.specs.declared.Change.{Change}
use Rattle.row_rules.specs.Broken.{row_rules, edit_rules}
use Rattle.adder_rules.specs.Sum.{digit_count}
use Rattle.adder_rules.specs.Broken.{output_rules}
use Rattle.edit_rules.specs.State.{new_inputs, State, renewed_count}

-- 1 to 13, 20 to 23, 24 to 26, and "in the edit over p to p + h": 27
abbrev pub edit_stages : List ℕ → Change → State → List Stage
edit_stages file e s =
    stage author (table_rules file)
    ∷ stage rows (row_rules s.first s.second (length s.sum) (digit_count file) (table_facts file).depth)
    ∷ stage editor (edit_rules e.row e.place e.digit (length s.first) (digit_count file))
    ∷ stage author (output_rules file (new_inputs file e s) e.place (renewed_count file))
    ∷ []
