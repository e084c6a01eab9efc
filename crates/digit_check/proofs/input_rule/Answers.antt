use mathlib.Core.Path.{refl, sym}
use native.Mathlib.Nat.{sub-zero}
use native.Mathlib.Omega.{arith}
use Rattle.lists.proofs.Found.{some_below, none_below}
use borrow.Author.Rules.{rules}
use Rattle.digit_rules.proofs.Allowed.{input_broken, input_on, only_missing, inputs_kept, some_unlisted, none_unlisted}
use Rattle.ring.specs.declared.Operation.TheVariants.{Plus}
use Rattle.faults.proofs.Passed.{err_of, ok_of}
use Rattle.digit_check.proofs.input_rule.Goals as goal

pub returns-then-inputs_kept : goal.returns-then-inputs_kept
returns-then-inputs_kept c = ok_of (c.inputs_kept.ensures c.if-inputs_kept.true)

pub loop-input-init : goal.loop-input-init
loop-input-init c = simp sub-zero

pub returns-then-not-record_allowed : goal.returns-then-not-record_allowed
returns-then-not-record_allowed c = err_of (omega arith) (input_broken _ _ _ _ c.record_count-count.ensures c.loop-input.invariant _ c.loop-input-test.true c.record_allowed.ensures c.if-not-record_allowed.true)

pub loop-input-preserved : goal.loop-input-preserved
loop-input-preserved c = input_on _ _ _ _ c.record_count-count.ensures c.loop-input.invariant _ c.loop-input-test.true c.record_allowed.ensures c.if-not-record_allowed.false

pub returns-in-Some : goal.returns-in-Some
returns-in-Some c =
    let at = some_below _ _ _ (sym c.in-Some.ensures) in
    let unlisted = some_unlisted Plus _ _ _ _ at.0 refl (omega (arith, at.0, at.1)) in
    err_of (omega arith) (only_missing _ _ _ _ c.record_count-count.ensures c.loop-input.invariant (search rules) c.loop-input-test.false unlisted)

pub returns-in-None : goal.returns-in-None
returns-in-None c =
    let listed = none_unlisted Plus _ _ _ _ refl refl (none_below _ _ (sym c.in-None.ensures)) in
    ok_of (inputs_kept _ _ _ _ c.record_count-count.ensures c.loop-input.invariant (search rules) c.loop-input-test.false listed)
