use Rattle.mirror_rules.proofs.Put.{leaf_put, leaves_put, leaves_none, leaves_next}
use native.Mathlib.Omega.{arith}
use mathlib.Core.Bool.{true, false}
use mathlib.Core.Path.{sym, ap, ◌∙◌}
use Rattle.mirror.proofs.put_leaves.Goals as goal

pub loop-k-init : goal.loop-k-init
loop-k-init c =
    let a = c.args in
    sym (leaves_none a.shape.positive a.shape.width a.words.now a.lengths.now a.weights.now a.at.leaves a.at.words a.out.now)

pub loop-k-preserved : goal.loop-k-preserved
loop-k-preserved c =
    let a = c.args in
    let put = leaf_put a.shape.positive a.shape.width a.words.now a.lengths.now a.weights.now a.at.leaves a.at.words in
    let both = c.put_leaf-in-loop-k.ensures ∙ ap (put true c.loop-k.k) (c.put_leaf.ensures ∙ ap (put false c.loop-k.k) c.loop-k.invariant) in
    both ∙ sym (leaves_next a.shape.positive a.shape.width a.words.now a.lengths.now a.weights.now a.at.leaves a.at.words a.out.now c.loop-k.k)

pub returns : goal.returns
returns c =
    let a = c.args in
    c.loop-k.invariant ∙ ap (leaves_put a.shape.positive a.shape.width a.words.now a.lengths.now a.weights.now a.at.leaves a.at.words a.out.now) (omega arith)
