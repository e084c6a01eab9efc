-- A number below the count is told only where its leaf was found to have the same weight.
use Rattle.ring.proofs.Element.{same→≡}
use Rattle.std.proofs.Common.{IfSome}
use Rattle.std.specs.Bool.{then_some}
use Prim.Native.Nat.{ℕ}
use mathlib.Core.Bool.{Bool, true, false}
use mathlib.Core.Path.{◌≡◌, refl, sym, ◌∙◌}
use Rattle.weight_sets.proofs.number_in.Goals as goal

told : (P : ℕ → Type 0) (n : ℕ) (b : Bool) → (b ≡ true → P n) → IfSome (then_some b n) P
told P n true h = h refl
told P n false h = tt

pub returns-then-number-count-clause-same : goal.returns-then-number-count-clause-same
returns-then-number-count-clause-same c = rw c.then_some.ensures
    (told _ _ c.equal.result (λ yes h. sym c.weight-known.ensures.weight ∙ same→≡ _ _ (sym c.equal.ensures ∙ yes) ∙ c.weight.ensures.weight))
