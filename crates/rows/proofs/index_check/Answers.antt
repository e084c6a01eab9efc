-- Where the highest byte is below the count all are; else the first that is not is looked for.
use lib.ListN.{length, get_or}
use Rattle.row_rules.specs.Check.{index_allowed, index_check}
use Rattle.faults.proofs.Passed.{judge_found, judge_nothing}
use Rattle.row_rules.proofs.Allowed.{found_at, found_nowhere}
use Rattle.lists.proofs.Scan.{scan_all}
use borrow.Author.Tests.{lt-ltb}
use native.Mathlib.Omega.{arith}
use native.Mathlib.Nat.{zero-add}
use mathlib.Core.Path.{refl, sym, ◌∙◌}
use Rattle.rows.proofs.index_check.Goals as goal

pub returns-then-highest-digits : goal.returns-then-highest-digits
unfolding index_check index_allowed
returns-then-highest-digits c =
    let a = c.args in
    let row = a.row.now in
    let all = scan_all (index_allowed a.digits row) 0 (length row) (λ j _ h. lt-ltb (get_or row j 0) a.digits (omega (arith, c.highest.ensures j (omega arith), c.if-highest-digits.true))) in
    judge_nothing _ (λ k. k) (index_allowed a.digits row) (length row) (length row) (sym (all ∙ zero-add (length row))) (omega arith)

pub returns-in-Some : goal.returns-in-Some
unfolding index_check
returns-in-Some c = let h = found_at c.args.digits c.args.row.now _ c.in-Some.ensures in judge_found _ (λ k. k) _ _ _ c.requires h.0 h.1

pub returns-in-None : goal.returns-in-None
unfolding index_check
returns-in-None c = judge_nothing _ (λ k. k) _ _ _ refl (found_nowhere c.args.digits c.args.row.now c.in-None.ensures)
