use Rattle.weight_sets.proofs.Weights.{double_next, double_end, same_next}
use mathlib.Core.Path.{refl}
use native.Mathlib.Omega.{arith}
use Rattle.weight_sets.proofs.double.Goals as goal

pub loop-leaf-init : goal.loop-leaf-init
loop-leaf-init c = (λ numbers covers l k h there low. absurd (omega arith), λ l h. refl)

pub loop-leaf-preserved : goal.loop-leaf-preserved
loop-leaf-preserved c =
    let sets = c.args.sets.now in
    let count = c.args.count in
    let loop = c.loop-leaf in (
      λ numbers covers. double_next numbers count sets loop.sets c.args.step loop.leaf covers loop.invariant.1 (omega arith) (loop.invariant.0 numbers covers),
      same_next sets count sets loop.sets loop.leaf _ loop.invariant.1,
    )

pub returns : goal.returns
returns c = λ numbers covers. double_end numbers c.args.count c.args.sets.now c.loop-leaf.sets c.args.step c.loop-leaf.leaf covers c.loop-leaf.invariant.1 (omega (arith, c.saturating_sub-leaf-end.ensures)) (c.loop-leaf.invariant.0 numbers covers)
