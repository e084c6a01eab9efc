-- What a call for C returns and leaves in the answer: where the array is short, for facts, for a fault.
use mathlib.Core.Path.{◌≡◌, refl, ap, ◌∙◌}
use mathlib.Core.List.{List, ◌∷◌}
use Prim.Native.Nat.{ℕ, ◌<◌, ◌≤◌}
use borrow.Author.Tests.{lt-ltb, le-ltb}
use lib.IntN.{ℤ, pos}
use lib.ListN.{length}
use Rattle.lists.specs.Overwrite.{overwrite}
use Rattle.faults.specs.declared.Fault.{Fault}
use Rattle.faults.specs.Outcome.{Group, Outcome, facts, refused}
use Rattle.faults.specs.Stated.{refused_by}
use Rattle.ring.specs.declared.Operation.{Operation}
use Rattle.row_rules.specs.declared.Change.{Change}
use Rattle.adder_rules.specs.declared.AddedFacts.{AddedFacts}
use Rattle.adder_rules.specs.Add.{result_outcome, result_in}
use Rattle.edit_rules.specs.State.{State}
use Rattle.runner_rules.specs.Told.{groups_of, numbers_of, values_of}
use Rattle.runner_rules.specs.Run.{run_all}
use Rattle.runner_rules.specs.Follows.{told_in}
use Rattle.answer_rules.specs.Answer.{outcome_words, outcome_status, if_room, returned, answered, add_words}
use Rattle.answer_rules.specs.Fault.{fault_words}

module _ {A : Type 0} where
  pub no_room : (wanted room : ℕ) (done short : A) → room < wanted → short ≡ if_room wanted room done short
  unfolding if_room
  no_room wanted room done short h = rw (lt-ltb room wanted h, if_room)

  pub some_room : (wanted room : ℕ) (done short : A) → wanted ≤ room → done ≡ if_room wanted room done short
  unfolding if_room
  some_room wanted room done short h = rw (le-ltb room wanted h, if_room)

module _ {F : Type 0} (words : F → List ℤ) (o : Outcome F) (answer : List ℤ) where
  pub short : length answer < 8 → (2 ≡ returned o answer) × (answer ≡ answered words o answer)
  short h = (no_room 8 (length answer) (outcome_status o) 2 h, no_room 8 (length answer) (overwrite answer 0 (outcome_words words o)) answer h)

  -- a call's answer told in words, where there is room
  pub told : (given : Outcome F) (r : ℕ) (last : List ℤ) → 8 ≤ length answer → given ≡ o → r ≡ outcome_status given → last ≡ overwrite answer 0 (outcome_words words given) → (r ≡ returned o answer) × (last ≡ answered words o answer)
  told given r last h e z l =
      rw (← e) (z ∙ some_room 8 (length answer) (outcome_status given) 2 h, l ∙ some_room 8 (length answer) (overwrite answer 0 (outcome_words words given)) answer h)

  -- facts and a fault in words, with what is returned for them
  pub facts_told : (f : F) (r : ℕ) (last : List ℤ) → o ≡ facts f → r ≡ 0 → last ≡ overwrite answer 0 (pos 0 ∷ words f) → (r ≡ outcome_status o) × (last ≡ overwrite answer 0 (outcome_words words o))
  unfolding outcome_status outcome_words
  facts_told f r last e z l = rw e (z, l)

  pub fault_told : (fault : Fault) (r : ℕ) (last : List ℤ) → o ≡ refused_by fault → r ≡ 1 → last ≡ overwrite answer 0 (fault_words fault) → (r ≡ outcome_status o) × (last ≡ overwrite answer 0 (outcome_words words o))
  unfolding outcome_status outcome_words
  fault_told fault r last e z l = rw e (z, l)

-- "it returns 0 for facts and 1 for a fault"
pub returns_0 : {F : Type 0} (f : F) → outcome_status (facts f) ≡ 0
unfolding outcome_status
returns_0 f = refl

pub returns_1 : {F : Type 0} (o : Outcome F) (g : Group) (n p : ℕ) → o ≡ refused g n p → outcome_status o ≡ 1
unfolding outcome_status
returns_1 o g n p e = rw e refl

-- addition's or subtraction's answer and buffer: where the answer array is short, and where they are as the operation leaves them
module _ (op : Operation) (file first second buffer : List ℕ) (answer : List ℤ) where
  abbrev o : Outcome AddedFacts
  o = result_outcome op file first second (length buffer)

  abbrev OperationLeft : ℕ → List ℤ → List ℕ → Type 0
  OperationLeft r last now =
      ((r ≡ returned o answer) × (last ≡ answered add_words o answer)) × (now ≡ if_room 8 (length answer) (result_in op file first second buffer) buffer)

  pub not_operated : length answer < 8 → OperationLeft 2 answer buffer
  not_operated h = (short add_words o answer h, no_room 8 (length answer) (result_in op file first second buffer) buffer h)

  pub as_operated : (given : Outcome AddedFacts) (r : ℕ) (last : List ℤ) (now : List ℕ) → 8 ≤ length answer → (given ≡ o) × (now ≡ result_in op file first second buffer)
      → (r ≡ outcome_status given) × (last ≡ overwrite answer 0 (outcome_words add_words given)) → OperationLeft r last now
  as_operated given r last now h call words =
      (told add_words o answer given r last h call.0 words.0 words.1, call.1 ∙ some_room 8 (length answer) (result_in op file first second buffer) buffer h)

-- a run's buffers and its three slices of answers: where the answer array is short, and where they are as the run leaves them
module _ (room : ℕ) (file : List ℕ) (s : State) (es : List Change) (whose numbers values : List ℕ) where
  abbrev RunLeft : State → List ℕ → List ℕ → List ℕ → Type 0
  RunLeft now w n v =
      (now ≡ if_room 8 room (run_all file s es).buffers s)
      × ((w ≡ if_room 8 room (told_in file s es groups_of whose) whose)
      × (n ≡ if_room 8 room (told_in file s es numbers_of numbers) numbers)
      × (v ≡ if_room 8 room (told_in file s es values_of values) values))

  pub not_run : room < 8 → RunLeft s whose numbers values
  not_run h = (no_room 8 room _ s h, (no_room 8 room _ whose h, no_room 8 room _ numbers h, no_room 8 room _ values h))

  pub as_run : (now : State) (w n v : List ℕ) → 8 ≤ room → now ≡ (run_all file s es).buffers → w ≡ told_in file s es groups_of whose → n ≡ told_in file s es numbers_of numbers → v ≡ told_in file s es values_of values → RunLeft now w n v
  as_run now w n v h a b c d =
      (a ∙ some_room 8 room _ s h, (b ∙ some_room 8 room _ whose h, c ∙ some_room 8 room _ numbers h, d ∙ some_room 8 room _ values h))

-- a carried table: where the buffer is short, and where it is written
module _ (wanted : ℕ) (out file : List ℕ) where
  pub no_copy : length out < wanted → (◌≡◌ {A = ℕ} 2 (if_room wanted (length out) 0 2)) × (out ≡ if_room wanted (length out) (overwrite out 0 file) out)
  no_copy h = (no_room wanted (length out) 0 2 h, no_room wanted (length out) (overwrite out 0 file) out h)

  pub copy : (given last : List ℕ) → wanted ≤ length out → given ≡ file → last ≡ overwrite out 0 given → (◌≡◌ {A = ℕ} 0 (if_room wanted (length out) 0 2)) × (last ≡ if_room wanted (length out) (overwrite out 0 file) out)
  copy given last h e l =
      (some_room wanted (length out) 0 2 h, l ∙ ap (overwrite out 0) e ∙ some_room wanted (length out) (overwrite out 0 file) out h)
