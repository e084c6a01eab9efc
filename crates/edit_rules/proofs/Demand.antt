-- Demand 1 for the edit: 1 to 13, 20 to 26 and 27.
use mathlib.Core.Path.{◌≡◌, sym}
use mathlib.Core.List.{List}
use Prim.Native.Nat.{ℕ}
use lib.ListN.{length}
use Rattle.faults.specs.Outcome.{Group, refused, author, rows, editor}
use Rattle.calls.specs.Answers.{Answers}
use Rattle.calls.proofs.Answers.{told_end, told_unless, told_answers}
use Rattle.reader_rules.specs.TableFacts.{table_facts}
use Rattle.reader_rules.proofs.Broken.{table_decided}
use Rattle.row_rules.specs.declared.Change.{Change}
use Rattle.row_rules.proofs.Broken.{rows_decided, edit_decided}
use Rattle.adder_rules.specs.Sum.{digit_count}
use Rattle.adder_rules.proofs.Demand.{digits_decided}
use Rattle.edit_rules.specs.declared.EditedFacts.{EditedFacts}
use Rattle.edit_rules.specs.Edit.{renew_facts, renew_outcome, edit_outcome, edit_state}
use Rattle.edit_rules.specs.State.{new_inputs, State, renewed_count}
use Rattle.edit_rules.specs.Broken.{edit_stages}
use Rattle.edit_rules.proofs.Stages.{state_lent}

-- Demand 1. For every list of bytes as table, rows and sum and every edit the call refuses with whose, N and P exactly when rule N is
-- broken at P, at no earlier place, and no rule before N in the order 1 to 13, 20 to 26, 27 is broken; else it gives the count and the reach.
pub demand_1 : (file : List ℕ) (e : Change) (s : State) → Answers (edit_stages file e s) (renew_facts file e s) (edit_outcome file e s)
unfolding edit_outcome renew_outcome
demand_1 file e s =
    told_answers (edit_stages file e s) given _
    (told_unless author _ _ given _ _ (table_decided file)
    (λ _. told_unless rows _ _ given _ _ (rows_decided s.first s.second (length s.sum) (digit_count file) (table_facts file).depth)
    (λ _. told_unless editor _ _ given _ _ (edit_decided e.row e.place e.digit (length s.first) (digit_count file))
    (λ _. told_unless author _ _ given _ _ (digits_decided file (new_inputs file e s) e.place (renewed_count file)) (λ _. told_end given)))))
  where
    given : EditedFacts
    given = renew_facts file e s

-- and then every buffer is as lent
pub refused_lent : (file : List ℕ) (e : Change) (s : State) (g : Group) (n p : ℕ) → edit_outcome file e s ≡ refused g n p → edit_state file e s ≡ s
refused_lent file e s g n p is = sym (state_lent file e s g n p (sym is))
