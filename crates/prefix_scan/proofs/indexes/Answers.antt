use mathlib.Core.Path.{sym, ◌∙◌}
use native.Mathlib.Omega.{arith}
use native.Mathlib.Nat.{sub-zero}
use lib.ListN.{length, get_or}
use borrow.Author.Tests.{lt-ltb, le-ltb}
use Rattle.lists.proofs.Scan.{scan_on}
use Rattle.faults.proofs.Check.{judge_here, judge_out}
use Rattle.prefix_rules.specs.Check.{word_index_check}
use Rattle.faults.proofs.Passed.{err_of, ok_of}
use Rattle.prefix_scan.proofs.indexes.Goals as goal

pub loop-i-init : goal.loop-i-init
loop-i-init c = simp sub-zero

pub returns-then-inputs-from : goal.returns-then-inputs-from
unfolding word_index_check
returns-then-inputs-from c =
    let a = c.args in
    let words = a.words.now in
    let loop = c.loop-i in
    err_of (omega arith) (judge_here 10 (λ i. i) _ (length words) loop.i loop.invariant c.loop-i-test.true (le-ltb (get_or words loop.i 0) a.inputs (omega arith)))

pub loop-i-preserved : goal.loop-i-preserved
loop-i-preserved c =
    let a = c.args in
    let words = a.words.now in
    let loop = c.loop-i in
    sym (scan_on _ _ (length words) c.loop-i-test.true (lt-ltb (get_or words loop.i 0) a.inputs (omega arith))) ∙ loop.invariant

pub returns : goal.returns
unfolding word_index_check
returns c = ok_of (judge_out 10 (λ i. i) _ (length c.args.words.now) c.loop-i.i c.loop-i.invariant c.loop-i-test.false)
