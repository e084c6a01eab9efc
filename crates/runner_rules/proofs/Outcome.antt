-- The outcome of a run, and what it leaves, where the check refuses, where the addition refuses, and where both pass.
use mathlib.Core.Path.{◌≡◌, ap, ◌∙◌}
use mathlib.Core.List.{List, []}
use Prim.Native.Nat.{ℕ}
use lib.ListN.{length}
use Rattle.faults.specs.Outcome.{Group, Outcome, facts, refused}
use Rattle.faults.proofs.Exit.{exit_lent, exit_written}
use Rattle.row_rules.specs.declared.Change.{Change}
use Rattle.table_rules.specs.declared.Facts.{Facts}
use Rattle.table_rules.specs.Check.{check_outcome}
use Rattle.adder_rules.specs.declared.AddedFacts.{AddedFacts}
use Rattle.adder_rules.specs.Calls.{add_outcome, add_sum}
use Rattle.edit_rules.specs.State.{State, state}
use Rattle.edit_rules.specs.Run.{edit_all, edit_answers, run}
use Rattle.runner_rules.specs.declared.RanFacts.{RanFacts}
use Rattle.runner_rules.specs.Run.{after, run_outcome, run_all}
use Rattle.runner_rules.specs.List.{edit_list}

module _ (file : List ℕ) (s : State) (m : ℕ) where
  abbrev addition : Outcome AddedFacts
  addition = add_outcome file s.first s.second (length s.sum)

  abbrev count : Outcome RanFacts
  count = facts (record { edits = m })

  pub check_refused : (g : Group) (n p : ℕ) → refused g n p ≡ check_outcome file → refused g n p ≡ run_outcome file s m
  unfolding after run_outcome
  check_refused g n p is = ap (λ (o : Outcome Facts). after o (after addition count)) is

  module _ (f : Facts) (accepted : facts f ≡ check_outcome file) where
    then_addition : after addition count ≡ run_outcome file s m
    unfolding after run_outcome
    then_addition = ap (λ (o : Outcome Facts). after o (after addition count)) accepted

    pub add_refused : (g : Group) (n p : ℕ) → refused g n p ≡ addition → refused g n p ≡ run_outcome file s m
    unfolding after
    add_refused g n p is = ap (λ (o : Outcome AddedFacts). after o count) is ∙ then_addition

    pub both_passed : (a : AddedFacts) → facts a ≡ addition → count ≡ run_outcome file s m
    unfolding after
    both_passed a is = ap (λ (o : Outcome AddedFacts). after o count) is ∙ then_addition

-- what a run leaves, by its outcome
module _ (file : List ℕ) (s : State) (es : List Change) where
  pub nothing_ran : (g : Group) (n p : ℕ) → refused g n p ≡ run_outcome file s (length es) → record { buffers = s; answers = [] } ≡ run_all file s es
  unfolding run_all
  nothing_ran g n p is = exit_lent (run_outcome file s (length es)) g n p (record { buffers = s; answers = [] }) (run file s es) is

  pub all_ran : (f : RanFacts) → facts f ≡ run_outcome file s (length es) → run file s es ≡ run_all file s es
  unfolding run_all
  all_ran f is = exit_written (run_outcome file s (length es)) f (record { buffers = s; answers = [] }) (run file s es) is

-- where both pass: the edits, called on the sum as the addition left it
module _ (file : List ℕ) (s : State) (rows places digits : List ℕ) (m called : ℕ) (counted : called ≡ m) (sum : List ℕ) (summed : sum ≡ add_sum file s.first s.second s.sum) where
  pub edits_ran : (f : RanFacts) → facts f ≡ run_outcome file s (length (edit_list rows places digits m)) → record { buffers = edit_all file (edit_list rows places digits called) (state s.first s.second sum); answers = edit_answers file (edit_list rows places digits called) (state s.first s.second sum) } ≡ run_all file s (edit_list rows places digits m)
  unfolding run
  edits_ran f is =
      (λ i. record { buffers = edit_all file (edit_list rows places digits (counted i)) (state s.first s.second (summed i)); answers = edit_answers file (edit_list rows places digits (counted i)) (state s.first s.second (summed i)) })
      ∙ all_ran file s (edit_list rows places digits m) f is
