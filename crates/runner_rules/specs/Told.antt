-- Pinned by tells and told_apart (proofs/Tells.antt): a reader may skip this file. The answer of an edit in three numbers ("Who sends a fault" of document 01): "whose it is: author, rows or editor, with number and
-- place", or its count.
use Rattle.std.specs.Prelude.{List, map, ℕ}
use Rattle.faults.specs.Outcome.{group_number, Outcome, facts, refused}
use Rattle.edit_rules.specs.declared.EditedFacts.{EditedFacts}
use Rattle.runner_rules.specs.declared.Told.{Told}

abbrev pub told_of : Outcome EditedFacts → Told
told_of (facts f) = record { whose = 0; number = 0; value = f.count }
told_of (refused whose number place) = record { whose = group_number whose; number = number; value = place }

-- a list of answers, in the three slices
abbrev pub groups_of : List (Outcome EditedFacts) → List ℕ
groups_of answers = map (λ o. (told_of o).whose) answers

abbrev pub numbers_of : List (Outcome EditedFacts) → List ℕ
numbers_of answers = map (λ o. (told_of o).number) answers

abbrev pub values_of : List (Outcome EditedFacts) → List ℕ
values_of answers = map (λ o. (told_of o).value) answers
