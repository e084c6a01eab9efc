-- For helpers' contracts only: what an answer of the row's value states.
use Rattle.std.specs.Prelude.{List, ℤ, Result, Ok, Err}
use Rattle.midpoint.specs.Midpoint.{parts}
use Rattle.faults.specs.Outcome.{Outcome, facts, refused, rows}
use Rattle.midpoint.specs.declared.Element.{Element}
use Rattle.row_value.specs.declared.Over.{Over}

-- the outcome that an answer states
abbrev pub outcome_of : Result Element Over → Outcome (List ℤ)
outcome_of (Ok e) = facts (parts e)
outcome_of (Err over) = refused rows 28 over.place
