-- Rows with every digit negated, and what a mirrored table makes of them: the sum of the negated rows is the negated sum, digit by digit.
use Rattle.std.specs.Prelude.{◌≡◌, List, ℕ, ◌<◌, length, get_or, take}
use Rattle.faults.specs.Outcome.{facts}
use Rattle.ring.specs.Element.{negative}
use Rattle.ring.specs.declared.Operation.{Operation}
use Rattle.digit_rules.specs.Record.{record_at}
use Rattle.reader_rules.specs.Table.{alphabet_part}
use Rattle.row_rules.specs.Fit.{Indexes}
use Rattle.adder_rules.specs.declared.AddedFacts.{AddedFacts}
use Rattle.adder_rules.specs.Sum.{digit_count, place_count}
use Rattle.adder_rules.specs.Add.{result_outcome, result_in}

-- the second row is the first with every digit negated
pub record Negated (file row other : List ℕ) : Type 0 where
  pub long : length other ≡ length row
  pub indexes : Indexes (digit_count file) other
  pub digits : (j : ℕ) → j < length row → record_at (alphabet_part file) (get_or other j 0) ≡ negative (record_at (alphabet_part file) (get_or row j 0))

-- what addition or subtraction of two other rows says and leaves, next to that of the first two
pub record NegatedResult (op : Operation) (file first second buffer : List ℕ) (f : AddedFacts) (other another lent : List ℕ) : Type 0 where
  -- the same facts: n + h, and the same reach
  pub same_facts : result_outcome op file other another (length lent) ≡ facts f
  pub negated : Negated file (take (place_count file first) (result_in op file first second buffer)) (take (place_count file other) (result_in op file other another lent))
