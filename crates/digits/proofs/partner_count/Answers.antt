-- By the operation.
use Rattle.digit_rules.specs.Digits.{partners}
use Rattle.ring.specs.declared.Operation.{Operation}
use mathlib.Core.Path.{sym, ap}
use Rattle.digits.proofs.partner_count.Goals as goal

pub returns-in-Plus : goal.returns-in-Plus
returns-in-Plus c = ap (λ (o : Operation). partners o c.args.n c.args.i) (sym c.in-Plus.is)

pub returns-in-Minus : goal.returns-in-Minus
returns-in-Minus c = ap (λ (o : Operation). partners o c.args.n c.args.i) (sym c.in-Minus.is)
