-- Pinned by reader_exact and well_formed (proofs/Broken.antt, proofs/Formed.antt): a reader may skip this file. Rules 1 to 13 of document 01 as a check.
use Rattle.std.specs.Prelude.{List, ℕ}
use Rattle.faults.specs.declared.Refusal.{Refusal}
use Rattle.faults.specs.Check.{◌then◌}
use Rattle.faults.specs.Outcome.{Outcome, facts, author}
use Rattle.faults.specs.Unless.{unless}
use Rattle.layout_rules.specs.Directory.{directory_check}
use Rattle.layout_rules.specs.Length.{length_check}
use Rattle.layout_rules.specs.Section.{section_lengths}
use Rattle.layout_rules.specs.Limit.{limit_check}
use Rattle.digit_rules.specs.Record.{element_count}
use Rattle.digit_rules.specs.Digits.{digit_check}
use Rattle.prefix_rules.specs.Check.{leaf_check}
use Rattle.reader_rules.specs.declared.Table.{Table}
use Rattle.reader_rules.specs.Table.{base_part, alphabet_part, input_part, leaf_part, word_part}
use Rattle.reader_rules.specs.TableFacts.{table_facts}

-- rules 1 to 4, 5 to 8, 9 to 13, and all of them in their order
unfoldable pub layout_check : List ℕ → Refusal
layout_check file = directory_check file then length_check (section_lengths file) then limit_check file

unfoldable pub digit_check_of : List ℕ → Refusal
digit_check_of file = digit_check (base_part file) (alphabet_part file) (input_part file)

unfoldable pub leaf_check_of : List ℕ → Refusal
leaf_check_of file = leaf_check (leaf_part file) (word_part file) (element_count (input_part file))

unfoldable pub table_check : List ℕ → Refusal
table_check file = layout_check file then digit_check_of file then leaf_check_of file

-- what the reader's answer states for every list of bytes
unfoldable pub read_outcome : List ℕ → Outcome Table
read_outcome file = unless author (table_check file) (facts (table_facts file))
