use mathlib.Core.Path.{◌≡◌, refl, sym}
use mathlib.Core.Bool.{Bool, true, false}
use Prim.Native.Nat.{ℕ, ◌<◌}
use native.Mathlib.Omega.{arith}
use borrow.Author.Count.{below_more}
use Rattle.numeration.specs.LeafOf.{agree}
use Rattle.numeration.proofs.Agreement.{agree_sound, agree_complete}
use Rattle.pairs.proofs.fit.Goals as goal

differing : (v w : ℕ → ℕ) (n i : ℕ) → i < n → (v i ≡ w i → ⊥) → false ≡ agree v w n
differing v w n i h apart = go (agree v w n) refl
  where
    go : (b : Bool) → agree v w n ≡ b → false ≡ b
    go true e = absurd (apart (agree_sound v w n e i h))
    go false e = refl

pub loop-i-init : goal.loop-i-init
loop-i-init c = λ k h. absurd (omega arith)

pub returns-then-upper-i : goal.returns-then-upper-i
returns-then-upper-i c = differing _ _ _ c.loop-i.i (omega arith) c.if-upper-i.true

pub loop-i-preserved : goal.loop-i-preserved
loop-i-preserved c = below_more _ _ c.loop-i.invariant c.if-upper-i.false

pub returns : goal.returns
returns c = sym (agree_complete _ _ _ (λ k h. c.loop-i.invariant k (omega arith)))
