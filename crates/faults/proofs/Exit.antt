-- An outcome is facts or a refusal and never both; what a call leaves in lent buffers by its outcome.
use mathlib.Core.Path.{◌≡◌, ap}
use Prim.Native.Nat.{ℕ}
use native.Mathlib.Omega.{arith}
use Rattle.faults.specs.Outcome.{Group, Outcome, facts, refused, at_exit}

module _ {F : Type 0} (o : Outcome F) where
  pub facts_no_fault : (f : F) (g : Group) (n p : ℕ) → o ≡ facts f → o ≡ refused g n p → ⊥
  facts_no_fault f g n p a b = let z : ◌≡◌ {A = ℕ} 0 1 = cc in omega arith

  -- a fault has one group, number and place
  pub one_fault : (g h : Group) (n m p q : ℕ) → o ≡ refused g n p → o ≡ refused h m q → (g ≡ h) × (n ≡ m) × (p ≡ q)
  one_fault g h n m p q a b = (cc, cc, cc)

  pub one_answer : (f k : F) → o ≡ facts f → o ≡ facts k → f ≡ k
  one_answer f k a b = cc

module _ {F S : Type 0} (o : Outcome F) where
  pub exit_lent : (g : Group) (n p : ℕ) (lent written : S) → refused g n p ≡ o → lent ≡ at_exit o lent written
  unfolding at_exit
  exit_lent g n p lent written e = ap (λ x. at_exit x lent written) e

  pub exit_written : (f : F) (lent written : S) → facts f ≡ o → written ≡ at_exit o lent written
  unfolding at_exit
  exit_written f lent written e = ap (λ x. at_exit x lent written) e
