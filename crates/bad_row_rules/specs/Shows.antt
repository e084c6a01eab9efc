-- What is told of a table that passes rules 1 to 13 (document 02, job 5): a bad row, or "that there is nothing to show".
use Rattle.std.specs.Prelude.{List, ℕ, ℤ}

-- "U, the lowest fitting L that fails with it, the digit that comes out", and the length of the string
pub record RowFacts : Type 0 where
  pub upper : ℕ
  pub lower : ℕ
  pub digit : List ℤ
  pub bytes : ℕ

pub data Shows : Type 0 where
  row : RowFacts → Shows
  nothing : Shows
