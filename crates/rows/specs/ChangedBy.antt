-- For helpers' contracts only: a row read with a change that may be none.
use Rattle.std.specs.Prelude.{List, ℕ, Option, Some, None}
use Rattle.row_rules.specs.declared.Change.{Change}
use Rattle.row_rules.specs.Changed.{changed}

-- the row with this number after the change; no change leaves it
abbrev pub changed_by : Option Change → ℕ → List ℕ → List ℕ
changed_by change number row = elim change [ Some one ↦ changed one number row | None ↦ row ]
