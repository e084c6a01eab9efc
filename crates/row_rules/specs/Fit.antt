-- What rows and edits are like that pass rules 21 and 24 to 26.
use Rattle.std.specs.Prelude.{List, ℕ, ◌<◌, ◌≤◌, length, get_or}

-- every byte of a row is an alphabet index
abbrev pub Indexes : ℕ → List ℕ → Type 0
Indexes digits row = (k : ℕ) → k < length row → get_or row k 0 < digits

-- 24 to 26
pub record EditFits (row place digit n digits : ℕ) : Type 0 where
  pub known_row : row ≤ 1
  pub in_row : place < n
  pub index : digit < digits
