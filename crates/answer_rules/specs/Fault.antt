-- The words of a fault in the answer array of a call for C.
use Rattle.std.specs.Prelude.{List, [], ◌∷◌, ℕ, ℤ, pos}
use Rattle.faults.specs.declared.Fault.{Fault}
use Rattle.faults.specs.Outcome.{Group, group_number}
use Rattle.faults.specs.Stated.{whose, number_of, place_of}
use Rattle.answer_rules.specs.Word.{word_of}

-- the words of a fault: whose it is, its number and its place
abbrev pub refusal_words : Group → ℕ → ℕ → List ℤ
refusal_words group number place = pos (group_number group) ∷ word_of number ∷ word_of place ∷ []

abbrev pub fault_words : Fault → List ℤ
fault_words f = refusal_words (whose f) (number_of f) (place_of f)
