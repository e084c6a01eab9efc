-- What a call for C leaves in the lent answer array, and what it returns: the same outcomes as the calls' own contracts have.
use Rattle.std.specs.Prelude.{true, false, List, [], ◌∷◌, ℕ, ltb, ℤ, pos, length, take}
use Rattle.ring.specs.declared.Degree.{Degree}
use Rattle.ring.specs.Degree.{part_count}
use Rattle.lists.specs.Overwrite.{overwrite}
use Rattle.faults.specs.Outcome.{Outcome, facts, refused}
use Rattle.table_rules.specs.declared.Facts.{Facts}
use Rattle.adder_rules.specs.declared.AddedFacts.{AddedFacts}
use Rattle.forecast_rules.specs.declared.ForecastFacts.{ForecastFacts}
use Rattle.bad_row_rules.specs.Shows.{Shows, row, nothing}
use Rattle.edit_rules.specs.declared.EditedFacts.{EditedFacts}
use Rattle.runner_rules.specs.declared.RanFacts.{RanFacts}
use Rattle.answer_rules.specs.Word.{word_of}
use Rattle.answer_rules.specs.Fault.{refusal_words}

-- the words of an outcome, whose facts are given as words: 0 and the facts, or the fault
unfoldable pub outcome_words : {F : Type 0} → (F → List ℤ) → Outcome F → List ℤ
outcome_words words (facts f) = pos 0 ∷ words f
outcome_words words (refused group number place) = refusal_words group number place

-- "it returns 0 for facts and 1 for a fault"
unfoldable pub outcome_status : {F : Type 0} → Outcome F → ℕ
outcome_status (facts f) = 0
outcome_status (refused group number place) = 1

-- what happens where a lent array has at least as many entries as are wanted, and where it is shorter
unfoldable pub if_room : {A : Type 0} → ℕ → ℕ → A → A → A
if_room wanted room done short = elim (ltb room wanted) [ true ↦ short | false ↦ done ]

-- what a call returns: 2 where the answer array has fewer than 8 words
abbrev pub returned : {F : Type 0} → Outcome F → List ℤ → ℕ
returned outcome answer = if_room 8 (length answer) (outcome_status outcome) 2

-- the answer array at exit: the outcome's words at its start, where it has 8 words; else it is left alone
abbrev pub answered : {F : Type 0} → (F → List ℤ) → Outcome F → List ℤ → List ℤ
answered words outcome answer = if_room 8 (length answer) (overwrite answer 0 (outcome_words words outcome)) answer

-- the facts of the check: h, leaf count, alphabet size and the number of fitting pairs
abbrev pub check_words : Facts → List ℤ
check_words f = word_of f.depth ∷ word_of f.leaves ∷ word_of f.digits ∷ word_of f.pairs ∷ []

-- the facts of the forecast: the number of fitting pairs, and n + h
abbrev pub forecast_words : ForecastFacts → List ℤ
forecast_words f = word_of f.pairs ∷ word_of f.bytes ∷ []

-- the facts of addition and of subtraction: n + h and the reach
abbrev pub add_words : AddedFacts → List ℤ
add_words f = word_of f.places ∷ word_of f.reach ∷ []

-- the facts of the edit: the count of sum bytes that differ from before, and the reach
abbrev pub edit_words : EditedFacts → List ℤ
edit_words f = word_of f.count ∷ word_of f.reach ∷ []

-- the fact of the runner: the number of edits that were called
abbrev pub run_words : RanFacts → List ℤ
run_words f = word_of f.edits ∷ []

-- an element: its parts, as many as the degree says
abbrev pub element_words : Degree → List ℤ → List ℤ
element_words d parts = take (part_count d) parts

-- the facts of the call that shows a bad row: how many bytes its string has, U, L and the digit; the count 0 alone where there is nothing to show
abbrev pub bad_row_words : Degree → Shows → List ℤ
bad_row_words d (row f) = word_of f.bytes ∷ word_of f.upper ∷ word_of f.lower ∷ element_words d f.digit
bad_row_words d nothing = word_of 0 ∷ []
