-- For helpers' contracts only: what rows are like that pass rules 20 to 23.
use Rattle.std.specs.Prelude.{◌≡◌, List, ℕ, ◌+◌, ◌≤◌, length}
use Rattle.row_rules.specs.Fit.{Indexes}

-- 20 and 21
pub record RowFits (row : List ℕ) (digits : ℕ) : Type 0 where
  pub short : length row ≤ 256
  pub indexes : Indexes digits row

-- 20 to 23
pub record RowsFit (first second : List ℕ) (sum digits depth : ℕ) : Type 0 where
  pub same_length : length second ≡ length first
  pub short : length first ≤ 256
  pub first_indexes : Indexes digits first
  pub second_indexes : Indexes digits second
  pub room : length first + depth ≤ sum
