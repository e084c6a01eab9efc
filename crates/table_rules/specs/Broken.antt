-- What rule 14 and the check as a whole mean, in the paper's words.
use Rattle.std.specs.Prelude.{List, [], ◌∷◌, ◌++◌, ℕ, ◌<◌}
use Rattle.layout_rules.specs.Section.{Section}
use Rattle.faults.specs.Outcome.{author}
use Rattle.faults.specs.Rule.{Rule, rule}
use Rattle.calls.specs.Answers.{Stage, stage}
use Rattle.digit_rules.specs.Record.{record_at, element_count}
use Rattle.digit_rules.specs.Broken.{Listed}
use Rattle.numeration.specs.Pairs.{Fits, pair_digit, RowsConvert}
use Rattle.leaf_rules.specs.Leaf.{leaf_count, code_of}
use Rattle.reader_rules.specs.Table.{base_part, alphabet_part, input_part, leaf_part, word_part, system}
use Rattle.reader_rules.specs.Broken.{table_rules}

-- 14: two fitting leaves give no alphabet digit (lowest U)
abbrev pub Broken14 : Section → Section → Section → Section → List ℕ → ℕ → Type 0
Broken14 base alphabet inputs leaves words p =
    (p < leaf_count leaves)
    × ((l : ℕ) × (l < leaf_count leaves) × Fits (code_of leaves words) p l × ¬ (Listed alphabet (pair_digit (system base) (record_at inputs) (code_of leaves words) p l)))

-- rules 1 to 14 in their order
abbrev pub check_rules : List ℕ → List Rule
check_rules file =
    table_rules file ++ (rule 14 (Broken14 (base_part file) (alphabet_part file) (input_part file) (leaf_part file) (word_part file)) ∷ [])

-- all of them in the author's name
abbrev pub check_stages : List ℕ → List Stage
check_stages file = stage author (check_rules file) ∷ []

-- "every finite row of input digits is converted into alphabet digits", at every place
abbrev pub RowsConverted : List ℕ → Type 0
RowsConverted file =
    RowsConvert (system (base_part file)) (record_at (input_part file)) (code_of (leaf_part file) (word_part file)) (Listed (alphabet_part file)) (element_count (input_part file))
