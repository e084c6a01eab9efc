use Prim.Native.Nat.{◌+◌, ◌-◌}
use Rattle.digit_sums.proofs.Marks.{follow_out, follow_here, follow_on, follow_end}
use Rattle.digit_sums.specs.Marks.{followed}
use Rattle.layout_rules.specs.Section.{of_degree}
use Rattle.lists.specs.Found.{below}
use Rattle.lists.proofs.Found.{below_some, below_none}
use native.Mathlib.Omega.{arith}
use mathlib.Core.Path.{sym, ap, ◌∙◌}
use Rattle.digit_sums.proofs.follow.Goals as goal

pub returns-then-at-count : goal.returns-then-at-count
returns-then-at-count c =
    let a = c.args in
    below_none _ (followed (of_degree a.degree a.inputs.now) a.links.now a.x 136 a.first)
    (omega (arith, c.record_count-count.ensures, follow_out (of_degree a.degree a.inputs.now) a.links.now a.x (136 - c.loop.counter) c.loop.at (omega (arith, c.record_count-count.ensures)), c.loop.invariant))

pub returns-then-equal : goal.returns-then-equal
returns-then-equal c =
    below_some _ c.loop.at (omega (arith, c.record_count-count.ensures))
    ∙ ap (below _) (sym (follow_here _ _ _ _ _ _ (omega arith) (omega (arith, c.record_count-count.ensures)) c.record_at.ensures.element (sym c.equal.ensures ∙ c.if-equal.true)) ∙ c.loop.invariant)

pub loop-preserved : goal.loop-preserved
loop-preserved c =
    sym (follow_on _ _ _ _ (136 - c.loop.counter) _ (omega arith) (omega (arith, c.record_count-count.ensures)) c.record_at.ensures.element (136 - (c.loop.counter + 1)) c.from-at-in-loop.result (omega arith) c.from-at-in-loop.ensures (sym c.equal.ensures ∙ c.if-equal.false))
    ∙ c.loop.invariant

pub returns : goal.returns
returns c =
    let a = c.args in
    below_none _ (followed (of_degree a.degree a.inputs.now) a.links.now a.x 136 a.first)
    (omega (arith, follow_end (of_degree a.degree a.inputs.now) a.links.now a.x (136 - c.loop.counter) c.loop.at (omega arith), c.loop.invariant))
