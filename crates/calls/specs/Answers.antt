-- Demand 1 of a call whose checks run in stages, each in one group's name (document 01, "Who sends a fault").
use Rattle.std.specs.Prelude.{◌≡◌, List, [], ◌∷◌, ◌⊎◌, ◌↔◌, ℕ, ◌<◌}
use Rattle.faults.specs.Outcome.{Group, Outcome, facts, refused}
use Rattle.faults.specs.Rule.{Rule, AllKept, FirstBroken}

-- whose faults they are, and the rules in their order
pub record Stage : Type 1 where
  pub whose : Group
  pub rules : List Rule

abbrev pub stage : Group → List Rule → Stage
stage whose rules = record { whose = whose; rules = rules }

-- no rule of any stage is broken
abbrev pub StagesKept : List Stage → Type 0
StagesKept [] = Unit
StagesKept (s ∷ rest) = AllKept s.rules × StagesKept rest

-- the rule of this group with this number has its first offender at this place, and no rule before it is broken
abbrev pub FirstFault : List Stage → Group → ℕ → ℕ → Type 0
FirstFault [] g n p = ⊥
FirstFault (s ∷ rest) g n p = ((g ≡ s.whose) × FirstBroken s.rules n p) ⊎ (AllKept s.rules × FirstFault rest g n p)

-- the outcome is the first broken rule, exactly, and these facts exactly where none is broken; nothing else
pub record Answers {F : Type 0} (stages : List Stage) (answer : F) (outcome : Outcome F) : Type 0 where
  pub first : (g : Group) (n p : ℕ) → 0 < n → (outcome ≡ refused g n p) ↔ FirstFault stages g n p
  pub passed : (outcome ≡ facts answer) ↔ StagesKept stages
  pub some_number : (g : Group) (n p : ℕ) → outcome ≡ refused g n p → 0 < n
  pub only_facts : (f : F) → outcome ≡ facts f → f ≡ answer
