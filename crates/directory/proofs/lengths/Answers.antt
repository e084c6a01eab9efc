use native.Mathlib.Omega.{arith}
use Rattle.layout_rules.specs.Length.{length_check}
use Rattle.layout_rules.proofs.Length.{section_judged}
use Rattle.faults.proofs.Check.{judge_here, judge_out}
use Rattle.faults.proofs.Passed.{err_of, ok_of}
use Rattle.lists.proofs.Scan.{scan_on}
use mathlib.Core.Path.{refl, sym, ◌∙◌}
use Rattle.directory.proofs.lengths.Goals as goal

pub loop-section-init : goal.loop-section-init
loop-section-init c = refl

pub returns-then-not-length_allowed : goal.returns-then-not-length_allowed
unfolding length_check
returns-then-not-length_allowed c = err_of (omega arith) (judge_here 3 (λ k. k) _ 5 _ c.loop-section.invariant c.loop-section-test.true (sym (section_judged c.args.given _ _ _ c.degree_of-degree.ensures c.length_allowed.ensures) ∙ c.if-not-length_allowed.true))

pub loop-section-preserved : goal.loop-section-preserved
loop-section-preserved c = sym (scan_on _ _ 5 c.loop-section-test.true (sym (section_judged c.args.given _ _ _ c.degree_of-degree.ensures c.length_allowed.ensures) ∙ c.if-not-length_allowed.false)) ∙ c.loop-section.invariant

pub returns : goal.returns
unfolding length_check
returns c = ok_of (judge_out 3 (λ k. k) _ 5 _ c.loop-section.invariant c.loop-section-test.false)
