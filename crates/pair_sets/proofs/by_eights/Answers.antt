use Rattle.runs.specs.Words.{Between}
use Rattle.runs.proofs.Places.{between_all, between_above}
use Rattle.pair_sets.proofs.Runs.{run_more}
use mathlib.Core.Path.{◌≡◌, subst}
use Prim.Native.Nat.{ℕ, ◌+◌}
use native.Mathlib.Omega.{arith}
use Rattle.pair_sets.proofs.by_eights.Goals as goal

pub loop-leaf-init : goal.loop-leaf-init
loop-leaf-init c = (between_all _ _ _ _ c.requires.room.2, λ numbers covers k low high. absurd (omega arith))

pub returns-then-last-keys : goal.returns-then-last-keys
returns-then-last-keys c = record { end = c.loop-leaf.invariant.0; set = c.loop-leaf.invariant.1 }

pub loop-leaf-preserved : goal.loop-leaf-preserved
loop-leaf-preserved c =
    let a = c.args in
    let loop = c.loop-leaf in
    let eight : loop.leaf + 7 + 1 ≡ loop.leaf + 8 = omega arith in (
      subst (λ (k : ℕ). Between a.keys.now a.last a.start a.count k a.count) eight (between_above _ _ _ _ _ _ loop.invariant.0 _ (omega arith) (omega arith) (omega (arith, c.if-last-keys.false))),
      λ numbers covers. run_more numbers a.count a.sets.now a.start loop.set loop.leaf 8 c.loop-leaf-test.true covers (loop.invariant.1 numbers covers),
    )

pub returns : goal.returns
returns c = record { end = c.loop-leaf.invariant.0; set = c.loop-leaf.invariant.1 }
