-- The buffers of an edit and the input digits after it (document 01, "Digit edit").
use Rattle.std.specs.Prelude.{List, ℕ, ◌+◌}
use Rattle.reader_rules.specs.TableFacts.{table_facts}
use Rattle.row_rules.specs.declared.Change.{Change}
use Rattle.row_rules.specs.Changed.{changed}
use Rattle.ring.specs.declared.Operation.TheVariants.{Plus}
use Rattle.adder_rules.specs.Input.{input_row}

-- "both rows, the sum": the buffers that an edit is given and may write
pub record State : Type 0 where
  pub first : List ℕ
  pub second : List ℕ
  pub sum : List ℕ

abbrev pub state : List ℕ → List ℕ → List ℕ → State
state first second sum = record { first = first; second = second; sum = sum }

-- how many places there are from p to p + h
abbrev pub renewed_count : List ℕ → ℕ
renewed_count file = (table_facts file).depth + 1

-- the input digits of "the new rows": those with the edit's digit stored
abbrev pub new_inputs : List ℕ → Change → State → List ℕ
new_inputs file e s = input_row Plus file (changed e 0 s.first) (changed e 1 s.second)
