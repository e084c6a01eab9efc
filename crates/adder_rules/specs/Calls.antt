-- The two calls: which operation each is, in the outcome and the buffer that their contracts cite.
use Rattle.std.specs.Prelude.{List, ℕ}
use Rattle.faults.specs.Outcome.{Outcome}
use Rattle.ring.specs.declared.Operation.TheVariants.{Plus, Minus}
use Rattle.adder_rules.specs.declared.AddedFacts.{AddedFacts}
use Rattle.adder_rules.specs.Add.{result_outcome, result_in}

-- of the table file, the rows and the length of the buffer
abbrev pub add_outcome : List ℕ → List ℕ → List ℕ → ℕ → Outcome AddedFacts
add_outcome = result_outcome Plus

abbrev pub subtract_outcome : List ℕ → List ℕ → List ℕ → ℕ → Outcome AddedFacts
subtract_outcome = result_outcome Minus

-- of the table file, the rows and the buffer
abbrev pub add_sum : List ℕ → List ℕ → List ℕ → List ℕ → List ℕ
add_sum = result_in Plus

abbrev pub subtract_difference : List ℕ → List ℕ → List ℕ → List ℕ → List ℕ
subtract_difference = result_in Minus
