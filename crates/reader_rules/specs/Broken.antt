-- Rules 1 to 13 of document 01 in their order, each with what it means that it is broken at a place.
use Rattle.std.specs.Prelude.{List, ◌++◌, ℕ}
use Rattle.faults.specs.Rule.{Rule}
use Rattle.layout_rules.specs.Section.{section_lengths}
use Rattle.layout_rules.specs.Broken.{directory_rules, length_rules, limit_rules}
use Rattle.digit_rules.specs.Record.{element_count}
use Rattle.digit_rules.specs.Broken.{digit_rules}
use Rattle.prefix_rules.specs.Broken.{leaf_rules}
use Rattle.reader_rules.specs.Table.{base_part, alphabet_part, input_part, leaf_part, word_part}

-- 1 to 4
abbrev pub layout_rules : List ℕ → List Rule
layout_rules file = directory_rules file ++ length_rules (section_lengths file) ++ limit_rules file

-- 1 to 13, each section as its part of the file
abbrev pub table_rules : List ℕ → List Rule
table_rules file =
    layout_rules file
    ++ digit_rules (base_part file) (alphabet_part file) (input_part file)
    ++ leaf_rules (leaf_part file) (word_part file) (element_count (input_part file))
