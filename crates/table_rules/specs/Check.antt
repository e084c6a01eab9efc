-- Pinned by demand_1 and facts_of (proofs/Demand.antt, proofs/FactsOf.antt): a reader may skip this file. The check of a table file:
-- rules 1 to 14, and its facts.
use Rattle.std.specs.Prelude.{List, ℕ}
use Rattle.faults.specs.declared.Refusal.{Refusal}
use Rattle.faults.specs.Outcome.{Outcome, facts, author}
use Rattle.faults.specs.Unless.{unless}
use Rattle.numeration.specs.PairCount.{pair_count}
use Rattle.reader_rules.specs.Table.{base_part, alphabet_part, input_part, leaf_part, word_part, leaves_in}
use Rattle.reader_rules.specs.TableFacts.{table_facts}
use Rattle.reader_rules.specs.Check.{table_check}
use Rattle.table_rules.specs.declared.Facts.{Facts}
use Rattle.table_rules.specs.declared.Pair.{Pair}
use Rattle.table_rules.specs.Pairs.{pair_check, bad_pair}

-- rule 14 of a file
unfoldable pub pair_check_of : List ℕ → Refusal
pair_check_of file = pair_check (base_part file) (alphabet_part file) (input_part file) (leaf_part file) (word_part file)

-- the failing pair of a file; the leaf count twice where none fails
abbrev pub bad_pair_of : List ℕ → Pair
bad_pair_of file = bad_pair (base_part file) (alphabet_part file) (input_part file) (leaf_part file) (word_part file)

-- h, leaf count, alphabet size and the number of fitting leaf pairs
unfoldable pub check_facts : List ℕ → Facts
check_facts file =
    record {
      depth = (table_facts file).depth;
      leaves = (table_facts file).leaves.count;
      digits = (table_facts file).alphabet.count;
      pairs = pair_count (leaves_in file);
    }

-- for every list of bytes: refused by 1 to 13, refused by 14, or accepted
unfoldable pub check_outcome : List ℕ → Outcome Facts
check_outcome file = unless author (table_check file) (unless author (pair_check_of file) (facts (check_facts file)))
