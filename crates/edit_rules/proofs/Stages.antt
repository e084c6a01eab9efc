-- The outcome of the edit, and the buffers at exit, stage by stage.
use mathlib.Core.Path.{◌≡◌, sym, ap, ◌∙◌}
use mathlib.Core.List.{List}
use Prim.Native.Nat.{ℕ}
use lib.ListN.{length}
use Rattle.faults.specs.declared.Refusal.{Refusal}
use Rattle.faults.specs.Outcome.{Group, refused, author, rows, editor, at_exit}
use Rattle.faults.proofs.Exit.{exit_lent}
use Rattle.faults.specs.Unless.{unless}
use Rattle.faults.proofs.Unless.{unless_found, unless_none}
use Rattle.reader_rules.specs.TableFacts.{table_facts}
use Rattle.reader_rules.specs.Check.{table_check, read_outcome}
use Rattle.reader_rules.proofs.Answer.{read_fault}
use Rattle.row_rules.specs.declared.Change.{Change}
use Rattle.row_rules.specs.Check.{row_check, edit_check}
use Rattle.adder_rules.specs.Sum.{digit_count}
use Rattle.edit_rules.specs.declared.EditedFacts.{EditedFacts}
use Rattle.edit_rules.specs.Edit.{written, renew_outcome, renew_state, edit_outcome, edit_state}
use Rattle.edit_rules.specs.State.{State}

module _ (file : List ℕ) (e : Change) (s : State) where
  -- 20 to 23 and 24 to 26, as the edit runs them
  abbrev pub rows_found : Refusal
  rows_found = row_check s.first s.second (length s.sum) (digit_count file) (table_facts file).depth

  abbrev pub asked_found : Refusal
  asked_found = edit_check e.row e.place e.digit (length s.first) (digit_count file)

  -- a faulty table's fault is passed on
  pub table_refused : (g : Group) (n p : ℕ) → refused g n p ≡ read_outcome file → refused g n p ≡ edit_outcome file e s
  unfolding edit_outcome
  table_refused g n p is = read_fault EditedFacts file g n p _ is

  module _ (passes : (table_check file).number ≡ 0) where
    -- 20 to 23, and what follows
    pub rows_stage : unless rows rows_found (unless editor asked_found (renew_outcome file e s)) ≡ edit_outcome file e s
    unfolding edit_outcome
    rows_stage = sym (unless_none author (table_check file) _ passes)

    -- 24 to 26, and what follows
    pub edit_stage : rows_found.number ≡ 0 → unless editor asked_found (renew_outcome file e s) ≡ edit_outcome file e s
    edit_stage fit = sym (unless_none rows rows_found _ fit) ∙ rows_stage

    pub edit_refused : rows_found.number ≡ 0 → (found : Refusal) → found ≡ asked_found → (found.number ≡ 0 → ⊥) → refused editor found.number found.place ≡ edit_outcome file e s
    edit_refused fit found is some =
        sym (unless_found editor found (renew_outcome file e s) some) ∙ ap (λ (r : Refusal). unless editor r (renew_outcome file e s)) is ∙ edit_stage fit

    pub edit_passed : rows_found.number ≡ 0 → asked_found.number ≡ 0 → renew_outcome file e s ≡ edit_outcome file e s
    edit_passed fit known = sym (unless_none editor asked_found _ known) ∙ edit_stage fit

  -- the buffers by the outcome
  pub state_lent : (g : Group) (n p : ℕ) → refused g n p ≡ edit_outcome file e s → s ≡ edit_state file e s
  unfolding edit_state
  state_lent g n p is = exit_lent (edit_outcome file e s) g n p s (written file e s) is

  pub state_by : renew_outcome file e s ≡ edit_outcome file e s → renew_state file e s ≡ edit_state file e s
  unfolding renew_state edit_state
  state_by is = ap (λ o. at_exit o s (written file e s)) is
