-- The number of a broken rule is that of a rule of the list.
use mathlib.Core.List.{List, [], ◌∷◌}
use mathlib.Core.Logic.{inl, inr}
use Prim.Native.Nat.{ℕ}
use Rattle.faults.specs.Rule.{Rule, FirstBroken}

-- something holds of every rule's number
abbrev pub Numbers : (ℕ → Type 0) → List Rule → Type 0
Numbers P [] = Unit
Numbers P (r ∷ rest) = P r.number × Numbers P rest

pub number_of : (P : ℕ → Type 0) (rules : List Rule) → Numbers P rules → (n p : ℕ) → FirstBroken rules n p → P n
number_of P [] all n p f = absurd f
number_of P (r ∷ rest) all n p (inl f) = rw f.0 all.0
number_of P (r ∷ rest) all n p (inr f) = number_of P rest all.1 n p f.1
