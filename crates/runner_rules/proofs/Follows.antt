-- Demand 3 of a run as the runner leaves it; where it is refused nothing is written.
use mathlib.Core.Path.{◌≡◌, refl, sym, ap, ◌∙◌}
use mathlib.Core.List.{List, [], ◌++◌, map}
use mathlib.Core.Logic.{◌⊎◌, inl, inr, ⊎_elim}
use Prim.Native.Nat.{ℕ, ◌+◌, ◌-◌, ◌<◌, ◌≤◌}
use native.Mathlib.Omega.{arith}
use lib.ListN.{length, get_or, drop, length-map, get_or-append}
use lib.Seq.{get_or-append-add, get_or-drop}
use Rattle.lists.specs.Overwrite.{overwrite}
use Rattle.lists.proofs.Overwrite.{overwrite_none}
use Rattle.faults.specs.Outcome.{Group, Outcome, facts, refused}
use Rattle.faults.proofs.Exit.{facts_no_fault}
use Rattle.row_rules.specs.declared.Change.{Change}
use Rattle.table_rules.specs.declared.Facts.{Facts}
use Rattle.table_rules.specs.Check.{check_facts, check_outcome}
use Rattle.table_rules.proofs.Demand.{demand_1}
use Rattle.adder_rules.specs.declared.AddedFacts.{AddedFacts}
use Rattle.adder_rules.specs.Sum.{result_facts}
use Rattle.adder_rules.specs.Calls.{add_outcome}
use Rattle.ring.specs.declared.Operation.TheVariants.{Plus}
use Rattle.adder_rules.proofs.Demand.{demand_1 as add_demand_1}
use Rattle.edit_rules.specs.declared.EditedFacts.{EditedFacts}
use Rattle.edit_rules.specs.State.{State}
use Rattle.edit_rules.specs.Run.{Ran, run}
use Rattle.edit_rules.proofs.Follows.{demand_3}
use Rattle.runner_rules.specs.declared.RanFacts.{RanFacts}
use Rattle.runner_rules.specs.Told.{told_of, groups_of, numbers_of, values_of}
use Rattle.runner_rules.specs.Run.{after, run_outcome, run_all}
use Rattle.runner_rules.specs.Follows.{Started, RunFollows}
use Rattle.runner_rules.proofs.Outcome.{nothing_ran, all_ran}
use Rattle.runner_rules.proofs.Tells.{tells_at}

-- where facts come after a call, it gave facts; a fault is the call's own, or comes after its facts
module _ {F G : Type 0} where
  after_given : (o : Outcome F) (rest : Outcome G) (g : G) → after o rest ≡ facts g → ((f : F) × (o ≡ facts f)) × (rest ≡ facts g)
  unfolding after
  after_given (facts f) rest g e = ((f, refl), e)
  after_given (refused h n p) rest g e = absurd (facts_no_fault (refused h n p) g h n p e refl)

  after_refused : (o : Outcome F) (rest : Outcome G) (g : Group) (n p : ℕ) → after o rest ≡ refused g n p → (o ≡ refused g n p) ⊎ (((f : F) × (o ≡ facts f)) × (rest ≡ refused g n p))
  unfolding after
  after_refused (facts f) rest g n p e = inr ((f, refl), e)
  after_refused (refused h m q) rest g n p e = inl cc

-- a number of each answer, written from the start of a slice on
module _ (f : Outcome EditedFacts → ℕ) (lent : List ℕ) (answers : List (Outcome EditedFacts)) where
  entry_at : (k : ℕ) → k < length answers → get_or (overwrite lent 0 (map f answers)) k 0 ≡ get_or (map f answers) k 0
  unfolding overwrite
  entry_at k h = get_or-append (map f answers) _ 0 k (omega (arith, length-map answers f))

  entry_beyond : (k : ℕ) → length answers ≤ k → get_or (overwrite lent 0 (map f answers)) k 0 ≡ get_or lent k 0
  unfolding overwrite
  entry_beyond k h =
      let m : ℕ = length (map f answers) in
      let at : k ≡ m + (k - m) = omega (arith, length-map answers f) in
      ap (λ (n : ℕ). get_or (map f answers ++ drop (0 + m) lent) n 0) at
      ∙ get_or-append-add (map f answers) (drop (0 + m) lent) (k - m) 0
      ∙ get_or-drop (0 + m) lent (k - m) 0
      ∙ ap (λ (n : ℕ). get_or lent n 0) (omega (arith, at))

module _ (file : List ℕ) (s : State) (es : List Change) (whose numbers values : List ℕ) where
  abbrev outcome : Outcome RanFacts
  outcome = run_outcome file s (length es)

  abbrev addition : Outcome AddedFacts
  addition = add_outcome file s.first s.second (length s.sum)

  accepted : (f : Facts) → check_outcome file ≡ facts f → check_outcome file ≡ facts (check_facts file)
  accepted f is = is ∙ ap facts ((demand_1 file).only_facts f is)

  added : (f : AddedFacts) → addition ≡ facts f → addition ≡ facts (result_facts Plus file s.first s.second)
  added f is = is ∙ ap facts ((add_demand_1 Plus file s.first s.second (length s.sum)).only_facts f is)

  started : (f : RanFacts) → outcome ≡ facts f → (f.edits ≡ length es) × Started file s es whose numbers values
  unfolding run_outcome
  started f is =
      let ((check, is_check), then_adds) = after_given (check_outcome file) _ f is in
      let ((sum, is_sum), counts) = after_given addition _ f then_adds in
      let ran : run file s es ≡ run_all file s es = all_ran file s es f (sym is) in
      let follows = demand_3 file (accepted check is_check) s sum is_sum es in
      let answers : List (Outcome EditedFacts) = (run_all file s es).answers in
      let all : length answers ≡ length es = ap (λ (r : Ran). length r.answers) (sym ran) ∙ follows.all_answered in (
        cc counts,
        record {
          accepted = accepted check is_check;
          adds = added sum is_sum;
          follows = follows;
          buffers = ap (λ (r : Ran). r.buffers) (sym ran);
          told = λ k h. rw (ran, entry_at (λ o. (told_of o).whose) whose answers k (omega arith), entry_at (λ o. (told_of o).number) numbers answers k (omega arith), entry_at (λ o. (told_of o).value) values answers k (omega arith)) (tells_at answers k);
          further = λ k h. (entry_beyond (λ o. (told_of o).whose) whose answers k (omega arith), entry_beyond (λ o. (told_of o).number) numbers answers k (omega arith), entry_beyond (λ o. (told_of o).value) values answers k (omega arith));
        },
      )

  faulty : (g : Group) (n p : ℕ) → outcome ≡ refused g n p → (check_outcome file ≡ refused g n p) ⊎ ((check_outcome file ≡ facts (check_facts file)) × (addition ≡ refused g n p))
  unfolding run_outcome
  faulty g n p is =
      ⊎_elim inl
      (λ a. inr (accepted a.0.0 a.0.1, ⊎_elim (λ e. e) (λ b. absurd (facts_no_fault _ _ g n p refl b.1)) (after_refused addition (facts (record { edits = length es })) g n p a.1)))
      (after_refused (check_outcome file) _ g n p is)

  -- Demand 3 of the runner. Where it gives facts, the check accepted the file, the addition wasn't refused, and demand 3 holds of the
  -- buffers that are left and of the answers that the slices tell; else the fault is the check's or the addition's and nothing is written.
  pub run_follows : RunFollows file s es whose numbers values
  run_follows =
      record {
        starts = started;
        fault = faulty;
        lent = λ g n p is. let none : run_all file s es ≡ record { buffers = s; answers = [] } = sym (nothing_ran file s es g n p (sym is)) in (
          ap (λ (r : Ran). r.buffers) none,
          ap (λ (r : Ran). overwrite whose 0 (groups_of r.answers)) none ∙ overwrite_none whose 0,
          ap (λ (r : Ran). overwrite numbers 0 (numbers_of r.answers)) none ∙ overwrite_none numbers 0,
          ap (λ (r : Ran). overwrite values 0 (values_of r.answers)) none ∙ overwrite_none values 0,
        );
      }
