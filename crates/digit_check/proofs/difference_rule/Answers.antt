-- The quick look says that nothing is broken; else the first digit with a difference that is missing.
use mathlib.Core.Path.{refl, sym}
use native.Mathlib.Omega.{arith}
use Rattle.lists.proofs.Found.{some_below, none_below}
use Rattle.digit_rules.proofs.Allowed.{difference_missing, differences_kept}
use Rattle.faults.proofs.Passed.{err_of, ok_of}
use Rattle.digit_check.proofs.difference_rule.Goals as goal

pub returns-then-differences_kept : goal.returns-then-differences_kept
returns-then-differences_kept c = ok_of (c.differences_kept.ensures c.if-differences_kept.true)

pub returns-in-Some : goal.returns-in-Some
returns-in-Some c =
    let at = some_below _ _ _ (sym c.in-Some.ensures) in
    err_of (omega arith) (difference_missing _ _ _ _ at.0 refl (omega (arith, at.0, at.1)))

pub returns-in-None : goal.returns-in-None
returns-in-None c = ok_of (differences_kept _ _ _ _ refl refl (none_below _ _ (sym c.in-None.ensures)))
