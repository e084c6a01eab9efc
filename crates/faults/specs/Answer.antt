-- The outcome that an answer of the code states ("Who sends a fault" of document 01): the facts, or the fault.
use Rattle.std.specs.Prelude.{Result, Ok, Err}
use Rattle.faults.specs.declared.Fault.{Fault}
use Rattle.faults.specs.Outcome.{Outcome, facts}
use Rattle.faults.specs.Stated.{refused_by}

-- where facts of this kind are told of the value that the code hands out
abbrev pub outcome_by : {A F : Type 0} → (A → F) → Result A Fault → Outcome F
outcome_by told (Ok answer) = facts (told answer)
outcome_by told (Err fault) = refused_by fault

-- where the value is the facts
abbrev pub outcome_of : {F : Type 0} → Result F Fault → Outcome F
outcome_of answer = outcome_by (λ f. f) answer
