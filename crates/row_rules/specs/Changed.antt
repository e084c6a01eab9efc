-- A row with one digit of it changed (document 01, "Digit edit").
use Rattle.std.specs.Prelude.{true, false, List, ℕ, set, eqb}
use Rattle.row_rules.specs.declared.Change.{Change}

-- the row with this number after the change; a change of another row leaves it
unfoldable pub changed : Change → ℕ → List ℕ → List ℕ
changed change number row = elim (eqb change.row number) [ true ↦ set row change.place change.digit | false ↦ row ]

-- row number 2 names neither row
abbrev pub no_change : Change
no_change = record { row = 2; place = 0; digit = 0 }
