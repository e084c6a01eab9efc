-- Demand 3 of document 01 for a run as the runner leaves it: its outcome, the buffers, and the answers in three slices of numbers.
use Rattle.std.specs.Prelude.{◌≡◌, List, ◌⊎◌, ℕ, ◌<◌, ◌≤◌, length, get_or}
use Rattle.lists.specs.Overwrite.{overwrite}
use Rattle.faults.specs.Outcome.{Group, Outcome, facts, refused, author, rows, editor}
use Rattle.row_rules.specs.declared.Change.{Change}
use Rattle.table_rules.specs.Check.{check_facts, check_outcome}
use Rattle.ring.specs.declared.Operation.TheVariants.{Plus}
use Rattle.adder_rules.specs.Sum.{result_facts}
use Rattle.adder_rules.specs.Calls.{add_outcome}
use Rattle.edit_rules.specs.declared.EditedFacts.{EditedFacts}
use Rattle.edit_rules.specs.State.{State}
use Rattle.edit_rules.specs.Run.{run}
use Rattle.edit_rules.specs.Follows.{ListFollows, no_facts}
use Rattle.runner_rules.specs.declared.RanFacts.{RanFacts}
use Rattle.runner_rules.specs.Run.{run_outcome, run_all}
use Rattle.runner_rules.specs.Told.{groups_of, numbers_of, values_of}

-- three numbers tell an edit's answer: 0, 0 and the count, whatever the reach, or 1 author, 2 rows, 3 editor with the fault's number and place
pub record Tells (answer : Outcome EditedFacts) (whose number value : ℕ) : Type 0 where
  pub count : (f : EditedFacts) → answer ≡ facts f → (whose ≡ 0) × (number ≡ 0) × (value ≡ f.count)
  pub author_fault : (n p : ℕ) → answer ≡ refused author n p → (whose ≡ 1) × (number ≡ n) × (value ≡ p)
  pub rows_fault : (n p : ℕ) → answer ≡ refused rows n p → (whose ≡ 2) × (number ≡ n) × (value ≡ p)
  pub editor_fault : (n p : ℕ) → answer ≡ refused editor n p → (whose ≡ 3) × (number ≡ n) × (value ≡ p)

-- of a table file, the buffers, a list of edits, and the three slices that are lent for the answers
module _ (file : List ℕ) (s : State) (es : List Change) where
  -- a lent slice at exit: a number of each answer at its start
  abbrev pub told_in : (List (Outcome EditedFacts) → List ℕ) → List ℕ → List ℕ
  told_in told lent = overwrite lent 0 (told (run_all file s es).answers)

  -- a run that starts: the check accepts the file, the addition isn't refused, and demand 3 holds of the buffers and the answers
  pub record Started (whose numbers values : List ℕ) : Type 0 where
    pub accepted : check_outcome file ≡ facts (check_facts file)
    pub adds : add_outcome file s.first s.second (length s.sum) ≡ facts (result_facts Plus file s.first s.second)
    pub follows : ListFollows file s es
    pub buffers : (run_all file s es).buffers ≡ (run file s es).buffers
    -- entry k of the slices tells answer k, and the entries beyond are the slices' own
    pub told : (k : ℕ) → k < length es → Tells (get_or (run file s es).answers k (facts no_facts)) (get_or (told_in groups_of whose) k 0) (get_or (told_in numbers_of numbers) k 0) (get_or (told_in values_of values) k 0)
    pub further : (k : ℕ) → length es ≤ k → (get_or (told_in groups_of whose) k 0 ≡ get_or whose k 0) × (get_or (told_in numbers_of numbers) k 0 ≡ get_or numbers k 0) × (get_or (told_in values_of values) k 0 ≡ get_or values k 0)

  -- every run starts or is refused: by the check, or by the addition where the check accepts; then nothing is written
  pub record RunFollows (whose numbers values : List ℕ) : Type 0 where
    pub starts : (f : RanFacts) → run_outcome file s (length es) ≡ facts f → (f.edits ≡ length es) × Started whose numbers values
    pub fault : (g : Group) (n p : ℕ) → run_outcome file s (length es) ≡ refused g n p → (check_outcome file ≡ refused g n p) ⊎ ((check_outcome file ≡ facts (check_facts file)) × (add_outcome file s.first s.second (length s.sum) ≡ refused g n p))
    pub lent : (g : Group) (n p : ℕ) → run_outcome file s (length es) ≡ refused g n p → ((run_all file s es).buffers ≡ s) × (told_in groups_of whose ≡ whose) × (told_in numbers_of numbers ≡ numbers) × (told_in values_of values ≡ values)
