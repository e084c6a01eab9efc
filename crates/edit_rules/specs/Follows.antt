-- Demand 3 of document 01: what holds after every prefix of a list of edits, and of each edit in it.
use Rattle.std.specs.Prelude.{◌≡◌, Bool, true, false, ◌&&◌, List, [], ◌∷◌, ◌↔◌, ℕ, ◌+◌, ◌<◌, ◌≤◌, length, get_or, take, ltb, leb}
use Rattle.faults.specs.Outcome.{Group, Outcome, facts, refused, editor}
use Rattle.calls.specs.Answers.{stage, Answers}
use Rattle.digit_rules.specs.Record.{record_at}
use Rattle.reader_rules.specs.Table.{alphabet_part, operations_of, value_of}
use Rattle.reader_rules.specs.TableFacts.{table_facts}
use Rattle.row_rules.specs.declared.Change.{Change}
use Rattle.row_rules.specs.Changed.{changed, no_change}
use Rattle.row_rules.specs.Broken.{edit_rules}
use Rattle.row_rules.specs.Fit.{EditFits}
use Rattle.ring.specs.declared.Operation.TheVariants.{Plus}
use Rattle.adder_rules.specs.Combined.{DigitsCombined}
use Rattle.adder_rules.specs.Sum.{digit_count, place_count, row_digit, row_reach}
use Rattle.adder_rules.specs.Input.{input_row, row_index}
use Rattle.adder_rules.specs.Calls.{add_outcome, add_sum}
use Rattle.edit_rules.specs.declared.EditedFacts.{EditedFacts}
use Rattle.edit_rules.specs.Count.{differing}
use Rattle.edit_rules.specs.State.{State, renewed_count}
use Rattle.edit_rules.specs.Run.{run}

-- two rows of n digits with the digits of the edits taken stored in turn. Taken are "exactly those with row number 0 or 1, p below n and an
-- alphabet index as the new digit"
module _ (n digits : ℕ) where
  abbrev pub takes : Change → Bool
  takes e = leb e.row 1 && (ltb e.place n && ltb e.digit digits)

  unfoldable pub store_edits : List Change → List ℕ × List ℕ → List ℕ × List ℕ
  store_edits [] r = r
  store_edits (e ∷ es) r = store_edits es (elim (takes e) [ true ↦ (changed e 0 r.0, changed e 1 r.1) | false ↦ r ])

-- after the edits es of rows and sum that an addition was given
pub record Follows (file : List ℕ) (s : State) (es : List Change) (now : State) : Type 0 where
  -- the rows are those of the addition with the digits of the edits taken stored in turn
  pub rows_stored : (now.first, now.second) ≡ store_edits (length s.first) (digit_count file) es (s.first, s.second)
  -- what is converted are the sums of the digits of the rows as they then stand, and zero outside them
  pub inputs : DigitsCombined Plus file now.first now.second
  -- the sum's byte j is the index of z(j) for the rows as they then stand, for every j below n + h
  pub index : (j : ℕ) → j < place_count file s.first → get_or now.sum j 0 ≡ row_index file (input_row Plus file now.first now.second) j
  pub digit : (j : ℕ) → j < place_count file s.first → record_at (alphabet_part file) (get_or now.sum j 0) ≡ row_digit file (input_row Plus file now.first now.second) j
  -- which is what a whole addition writes
  pub adds : add_outcome file now.first now.second (length s.sum) ≡ facts (record { places = place_count file s.first; reach = row_reach file (input_row Plus file now.first now.second) 0 (place_count file s.first) })
  pub whole : now.sum ≡ add_sum file now.first now.second s.sum
  -- the bytes beyond are the buffer's own
  pub further : (j : ℕ) → place_count file s.first ≤ j → get_or now.sum j 0 ≡ get_or s.sum j 0
  pub long : length now.sum ≡ length s.sum
  -- the value of the sum row is the sum of the rows' values
  pub value_is : value_of file (take (place_count file s.first) now.sum) ≡ (operations_of file).sum (value_of file now.first) (value_of file now.second)

-- the number of sum digits that an edit of rows of n digits changed, over the whole row, and the longest word looked up in the rows after it
-- at places p − 1 to p + h, −1 left out
abbrev pub step_facts : List ℕ → ℕ → Change → State → State → EditedFacts
step_facts file n e before after = record { count = differing before.sum after.sum 0 (n + (table_facts file).depth); reach = row_reach file (input_row Plus file after.first after.second) e.place (renewed_count file) }

-- one edit of rows of n digits: the buffers before and after it, and its answer
pub record Step (file : List ℕ) (n : ℕ) (e : Change) (before after : State) (answer : Outcome EditedFacts) : Type 0 where
  -- 24, 25, 26, the first that holds, and else its facts
  pub answers : Answers (stage editor (edit_rules e.row e.place e.digit n (digit_count file)) ∷ []) (step_facts file n e before after) answer
  -- it is taken exactly so
  pub taken : (answer ≡ facts (step_facts file n e before after)) ↔ EditFits e.row e.place e.digit n (digit_count file)
  -- a taken edit changed nothing but its place in its row and sum places p to p + h
  pub stored : EditFits e.row e.place e.digit n (digit_count file) → (after.first ≡ changed e 0 before.first) × (after.second ≡ changed e 1 before.second)
  pub elsewhere : (j : ℕ) → (e.place ≤ j → j ≤ e.place + (table_facts file).depth → ⊥) → get_or after.sum j 0 ≡ get_or before.sum j 0
  pub long : length after.sum ≡ length before.sum
  -- a refused edit changed nothing
  pub refused_lent : (g : Group) (m p : ℕ) → answer ≡ refused g m p → after ≡ before

-- what stands for an answer that isn't there
abbrev pub no_facts : EditedFacts
no_facts = record { count = 0; reach = 0 }

-- the list as a whole
pub record ListFollows (file : List ℕ) (s : State) (es : List Change) : Type 0 where
  pub after : (k : ℕ) → k ≤ length es → Follows file s (take k es) (run file s (take k es)).buffers
  pub each : (k : ℕ) → k < length es → Step file (length s.first) (get_or es k no_change) (run file s (take k es)).buffers (run file s (take (k + 1) es)).buffers (get_or (run file s es).answers k (facts no_facts))
  pub all_answered : length (run file s es).answers ≡ length es
