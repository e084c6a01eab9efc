use Rattle.weight_sets.proofs.Bits.{has_left, has_right, has_single}
use borrow.Author.Count.{below_more}
use mathlib.Core.Path.{sym, subst}
use Prim.Native.Nat.{ℕ}
use native.Mathlib.Omega.{arith}
use Rattle.weight_sets.specs.Bits.{Has}
use Rattle.weight_sets.proofs.all_weights.Goals as goal

pub loop-number-init : goal.loop-number-init
loop-number-init c = λ j h. absurd (omega arith)

pub loop-number-preserved : goal.loop-number-preserved
loop-number-preserved c = below_more _ _ (λ j h. has_left c.loop-number.set c.single-set.result j (c.loop-number.invariant j h)) (has_right c.loop-number.set c.single-set.result c.loop-number.number (subst (λ (x : ℕ). Has x c.loop-number.number) (sym c.single-set.ensures) (has_single c.loop-number.number)))

pub returns : goal.returns
returns c = λ j h. c.loop-number.invariant j (omega arith)
