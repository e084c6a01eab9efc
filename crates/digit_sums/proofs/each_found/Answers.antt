use native.Mathlib.Omega.{arith}
use Rattle.layout_rules.specs.Section.{of_degree}
use Rattle.digit_sums.specs.Marks.{located}
use Rattle.digit_sums.proofs.Marks.{found_next}
use Rattle.digit_sums.proofs.each_found.Goals as goal

pub loop-k-preserved : goal.loop-k-preserved
loop-k-preserved c =
    let a = c.args in
    found_next (of_degree a.degree a.inputs.now) (located (of_degree a.degree a.inputs.now) a.heads.now a.links.now) _ c.loop-k.invariant (c.found_at.ensures c.if-not-found_at.false)

pub returns : goal.returns
returns c = λ yes k h. c.loop-k.invariant k (omega (arith, c.record_count-count.ensures))
