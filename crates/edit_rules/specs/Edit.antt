-- Pinned by demand_1, refused_lent and step (proofs/Demand.antt, proofs/Step.antt): a reader may skip this file. The digit edit
-- (document 01) as a function of the table file, the edit and the three buffers.
use Rattle.std.specs.Prelude.{List, ℕ, length}
use Rattle.lists.specs.Overwrite.{overwrite}
use Rattle.faults.specs.Outcome.{Outcome, facts, author, rows, editor, at_exit}
use Rattle.faults.specs.Unless.{unless}
use Rattle.reader_rules.specs.TableFacts.{table_facts}
use Rattle.reader_rules.specs.Check.{table_check}
use Rattle.row_rules.specs.declared.Change.{Change}
use Rattle.row_rules.specs.Changed.{changed}
use Rattle.row_rules.specs.Check.{row_check, edit_check}
use Rattle.adder_rules.specs.Sum.{digit_count, row_reach}
use Rattle.adder_rules.specs.Add.{row_part, output_check}
use Rattle.edit_rules.specs.declared.EditedFacts.{EditedFacts}
use Rattle.edit_rules.specs.State.{State, state, renewed_count, new_inputs}
use Rattle.edit_rules.specs.Count.{differing}

-- an edit is a row number, a place p and a new alphabet index
module _ (file : List ℕ) (e : Change) (s : State) where
  -- "The digit is stored and sum places p to p + h become those of a whole addition of the new rows"
  unfoldable pub new_sum : List ℕ
  new_sum = overwrite s.sum e.place (row_part file (new_inputs file e s) e.place (renewed_count file))

  abbrev pub written : State
  written = state (changed e 0 s.first) (changed e 1 s.second) new_sum

  -- "the count of sum bytes in p to p + h that differ from before"
  unfoldable pub count : ℕ
  count = differing s.sum new_sum e.place (renewed_count file)

  -- the count, and the longest word looked up at places p − 1 to p + h, −1 left out
  abbrev pub renew_facts : EditedFacts
  renew_facts = record { count = count; reach = row_reach file (new_inputs file e s) e.place (renewed_count file) }

  -- 27 over p to p + h, then the facts
  unfoldable pub renew_outcome : Outcome EditedFacts
  renew_outcome = unless author (output_check file (new_inputs file e s) e.place (renewed_count file)) (facts renew_facts)

  unfoldable pub renew_state : State
  renew_state = at_exit renew_outcome s written

  -- 1 to 13, then 20 to 23, then 24 to 26, then 27
  unfoldable pub edit_outcome : Outcome EditedFacts
  edit_outcome =
      unless author (table_check file)
      (unless rows (row_check s.first s.second (length s.sum) (digit_count file) (table_facts file).depth)
      (unless editor (edit_check e.row e.place e.digit (length s.first) (digit_count file)) renew_outcome))

  unfoldable pub edit_state : State
  edit_state = at_exit edit_outcome s written
