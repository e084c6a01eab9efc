-- The number of a call's fault is that of a rule of one of its stages.
use mathlib.Core.List.{List, [], ◌∷◌}
use mathlib.Core.Logic.{inl, inr}
use Prim.Native.Nat.{ℕ}
use Rattle.faults.specs.Outcome.{Group}
use Rattle.faults.proofs.Numbers.{Numbers, number_of}
use Rattle.calls.specs.Answers.{Stage, FirstFault}

-- something holds of every rule's number
abbrev pub StageNumbers : (ℕ → Type 0) → List Stage → Type 0
StageNumbers P [] = Unit
StageNumbers P (s ∷ rest) = Numbers P s.rules × StageNumbers P rest

pub fault_number : (P : ℕ → Type 0) (stages : List Stage) → StageNumbers P stages → (g : Group) (n p : ℕ) → FirstFault stages g n p → P n
fault_number P [] all g n p f = absurd f
fault_number P (s ∷ rest) all g n p (inl f) = number_of P s.rules all.0 n p f.1
fault_number P (s ∷ rest) all g n p (inr f) = fault_number P rest all.1 g n p f.1
