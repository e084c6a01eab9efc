-- Pinned by demand_1, shows-of and nothing_accepted (proofs/Demand.antt, proofs/Row.antt): a reader may skip this file. What the call shows of a
-- table file, and the lent string at exit.
use Rattle.std.specs.Prelude.{true, false, List, ℕ, ltb, length}
use Rattle.lists.specs.Overwrite.{overwrite}
use Rattle.faults.specs.Outcome.{Outcome, facts, author, at_exit}
use Rattle.faults.specs.Unless.{unless}
use Rattle.digit_rules.specs.Record.{record_at}
use Rattle.leaf_rules.specs.Leaf.{leaf_count}
use Rattle.numeration.specs.Pairs.{pair_digit}
use Rattle.numeration.specs.PairTests.{pair_string}
use Rattle.reader_rules.specs.Table.{input_part, leaf_part, operations_of, leaves_in}
use Rattle.reader_rules.specs.Check.{table_check}
use Rattle.table_rules.specs.declared.Pair.{Pair}
use Rattle.table_rules.specs.Check.{bad_pair_of}
use Rattle.bad_row_rules.specs.Shows.{RowFacts, Shows, row, nothing}

module _ (table : List ℕ) where
  -- of two leaves: the string, and the facts
  abbrev pub string_of : Pair → List ℕ
  string_of p = pair_string (leaves_in table) p.upper p.lower

  abbrev pub row_facts : Pair → RowFacts
  row_facts p =
      record {
        upper = p.upper;
        lower = p.lower;
        digit = pair_digit (operations_of table) (record_at (input_part table)) (leaves_in table) p.upper p.lower;
        bytes = length (string_of p);
      }

  -- of a table that passes 1 to 13
  unfoldable pub shows : Shows
  shows = elim (ltb (bad_pair_of table).upper (leaf_count (leaf_part table))) [ true ↦ row (row_facts (bad_pair_of table)) | false ↦ nothing ]

  -- for every list of bytes: refused by 1 to 13, or what is shown
  unfoldable pub bad_row_outcome : Outcome Shows
  bad_row_outcome = unless author (table_check table) (facts shows)

-- a lent buffer after a string was shown in it, which nothing leaves alone
unfoldable pub written : Shows → List ℕ → List ℕ → List ℕ
written (row f) string lent = overwrite lent 0 string
written nothing string lent = lent

-- the lent buffer at exit: "Bytes beyond keep their contents; with Nothing or a fault all do"
unfoldable pub bad_row_in : List ℕ → List ℕ → List ℕ
bad_row_in table lent = at_exit (bad_row_outcome table) lent (written (shows table) (string_of table (bad_pair_of table)) lent)
