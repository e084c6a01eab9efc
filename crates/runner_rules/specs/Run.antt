-- Pinned by run_follows and asked_at, asked_count (proofs/Follows.antt, proofs/Asked.antt): a reader may skip this file. The check, the
-- addition and a list of edits (document 01, "Digit edit": a list "starts from an addition that wasn't refused") as a
-- function of the table file, the buffers and the numbers that list the edits.
use Rattle.std.specs.Prelude.{List, [], ℕ, min, length}
use Rattle.faults.specs.Outcome.{Outcome, facts, refused, at_exit}
use Rattle.row_rules.specs.declared.Change.{Change}
use Rattle.table_rules.specs.Check.{check_outcome}
use Rattle.adder_rules.specs.Calls.{add_outcome}
use Rattle.edit_rules.specs.State.{State}
use Rattle.edit_rules.specs.Run.{Ran, run}
use Rattle.runner_rules.specs.List.{edit_list}
use Rattle.runner_rules.specs.declared.RanFacts.{RanFacts}

-- as many edits as the shortest of six slices: these are listed whole, and there is room for their answers
module _ (rows places digits whose numbers values : List ℕ) where
  abbrev pub edit_count : ℕ
  edit_count = min (min (length rows) (min (length places) (length digits))) (min (length whose) (min (length numbers) (length values)))

  abbrev pub asked_edits : List Change
  asked_edits = edit_list rows places digits edit_count

-- the fault where there is one, else what follows
unfoldable pub after : {F G : Type 0} → Outcome F → Outcome G → Outcome G
after (facts f) rest = rest
after (refused whose number place) rest = refused whose number place

-- 1 to 14 by the check, then 20 to 23 and 27 by the addition, then the number of edits
unfoldable pub run_outcome : List ℕ → State → ℕ → Outcome RanFacts
run_outcome file s m = after (check_outcome file) (after (add_outcome file s.first s.second (length s.sum)) (facts (record { edits = m })))

-- where the list doesn't start, nothing is written and nothing answered
unfoldable pub run_all : List ℕ → State → List Change → Ran
run_all file s es = at_exit (run_outcome file s (length es)) (record { buffers = s; answers = [] }) (run file s es)
