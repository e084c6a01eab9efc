-- One law for each answer.
use mathlib.Core.Path.{sym, ◌∙◌}
use native.Mathlib.Omega.{arith}
use Rattle.digit_rules.proofs.Base.{square_refused, base_refused, base_kept}
use Rattle.faults.proofs.Passed.{err_of, ok_of}
use Rattle.digit_check.proofs.base_rules.Goals as goal

pub returns-then-not-discriminant_allowed : goal.returns-then-not-discriminant_allowed
returns-then-not-discriminant_allowed c =
    err_of (omega arith) (square_refused _ (sym c.discriminant_allowed.ensures ∙ c.if-not-discriminant_allowed.true))

pub returns-then-not-base_allowed : goal.returns-then-not-base_allowed
returns-then-not-base_allowed c =
    err_of (omega arith) (base_refused _ (sym c.discriminant_allowed.ensures ∙ c.if-not-discriminant_allowed.false) (sym c.base_allowed.ensures ∙ c.if-not-base_allowed.true))

pub returns : goal.returns
returns c =
    ok_of (base_kept _ (sym c.discriminant_allowed.ensures ∙ c.if-not-discriminant_allowed.false) (sym c.base_allowed.ensures ∙ c.if-not-base_allowed.false))
