-- What it means that a check gives the first broken rule (document 01, "Who sends a fault"), with no test and no search.
use Rattle.std.specs.Prelude.{◌≡◌, List, [], ◌∷◌, ◌⊎◌, ℕ, ◌<◌}

-- a rule: its number, and what it means that it is broken at a place
pub record Rule : Type 1 where
  pub number : ℕ
  pub Broken : ℕ → Type 0

abbrev pub rule : ℕ → (ℕ → Type 0) → Rule
rule n broken = record { number = n; Broken = broken }

-- a rule that is broken nowhere
abbrev pub Kept : Rule → Type 0
Kept r = (p : ℕ) → ¬ (r.Broken p)

-- a rule's first offender: broken at the place, and at no earlier one
pub record FirstAt (r : Rule) (p : ℕ) : Type 0 where
  pub broken : r.Broken p
  pub earliest : (q : ℕ) → q < p → ¬ (r.Broken q)

-- no rule of the list is broken
abbrev pub AllKept : List Rule → Type 0
AllKept [] = Unit
AllKept (r ∷ rest) = Kept r × AllKept rest

-- the rules run in the list's order: the one with this number has its first offender at this place, and none before it is broken
abbrev pub FirstBroken : List Rule → ℕ → ℕ → Type 0
FirstBroken [] n p = ⊥
FirstBroken (r ∷ rest) n p = ((n ≡ r.number) × FirstAt r p) ⊎ (Kept r × FirstBroken rest n p)
