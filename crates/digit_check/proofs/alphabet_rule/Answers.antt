use mathlib.Core.Path.{sym, ap, ◌∙◌}
use native.Mathlib.Nat.{sub-zero}
use native.Mathlib.Omega.{arith}
use Rattle.lists.proofs.Scan.{scan_on}
use Rattle.faults.proofs.Check.{judge_here, judge_out}
use Rattle.faults.specs.Check.{judge}
use Rattle.digit_rules.specs.Digits.{alphabet_check}
use Rattle.faults.proofs.Passed.{err_of, ok_of}
use Rattle.digit_check.proofs.alphabet_rule.Goals as goal

pub loop-digit-init : goal.loop-digit-init
loop-digit-init c = simp sub-zero

pub returns-then-not-record_allowed : goal.returns-then-not-record_allowed
unfolding alphabet_check
returns-then-not-record_allowed c = err_of (omega arith) (judge_here 7 (λ k. k) _ _ _ c.loop-digit.invariant c.loop-digit-test.true (sym c.record_allowed.ensures ∙ c.if-not-record_allowed.true) ∙ ap (judge 7 (λ k. k) _) c.record_count-count.ensures)

pub loop-digit-preserved : goal.loop-digit-preserved
loop-digit-preserved c = sym (scan_on _ _ _ c.loop-digit-test.true (sym c.record_allowed.ensures ∙ c.if-not-record_allowed.false)) ∙ c.loop-digit.invariant

pub returns : goal.returns
unfolding alphabet_check
returns c = ok_of (judge_out 7 (λ k. k) _ _ _ c.loop-digit.invariant c.loop-digit-test.false ∙ ap (judge 7 (λ k. k) _) c.record_count-count.ensures)
