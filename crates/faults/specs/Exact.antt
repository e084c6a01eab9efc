-- For the laws only: demand 1 of a stage of checks.
use Rattle.std.specs.Prelude.{◌≡◌, List, ◌↔◌, ℕ, ◌<◌}
use Rattle.faults.specs.declared.Refusal.{Refusal}
use Rattle.faults.specs.Check.{refusal, none}
use Rattle.faults.specs.Rule.{Rule, AllKept, FirstBroken}

-- a check finds the first broken rule, exactly, and nothing exactly where none is broken
pub record Exact (rules : List Rule) (found : Refusal) : Type 0 where
  pub refused : (n p : ℕ) → 0 < n → (found ≡ refusal n p) ↔ FirstBroken rules n p
  pub passed : (found ≡ none) ↔ AllKept rules
