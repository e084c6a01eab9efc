-- A list of edits (document 01, "Digit edit"): each "is given that addition's table, and its two rows and sum as the call before left them".
use Rattle.std.specs.Prelude.{List, [], ◌∷◌, ℕ}
use Rattle.faults.specs.Outcome.{Outcome}
use Rattle.row_rules.specs.declared.Change.{Change}
use Rattle.adder_rules.specs.Calls.{add_sum}
use Rattle.edit_rules.specs.declared.EditedFacts.{EditedFacts}
use Rattle.edit_rules.specs.Edit.{edit_outcome, edit_state}
use Rattle.edit_rules.specs.State.{State, state}

module _ (file : List ℕ) where
  -- the buffers after a list of edits, and the answers, one for each
  unfoldable pub edit_all : List Change → State → State
  edit_all [] s = s
  edit_all (e ∷ es) s = edit_all es (edit_state file e s)

  unfoldable pub edit_answers : List Change → State → List (Outcome EditedFacts)
  edit_answers [] s = []
  edit_answers (e ∷ es) s = edit_outcome file e s ∷ edit_answers es (edit_state file e s)

  -- the buffers after an addition
  abbrev pub added : State → State
  added s = state s.first s.second (add_sum file s.first s.second s.sum)

-- a list that "starts from an addition": what it leaves in the buffers, and what it answers
pub record Ran : Type 0 where
  pub buffers : State
  pub answers : List (Outcome EditedFacts)

unfoldable pub run : List ℕ → State → List Change → Ran
run file s es = record { buffers = edit_all file es (added file s); answers = edit_answers file es (added file s) }
