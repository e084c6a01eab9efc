-- By the operation.
use Rattle.layout_rules.specs.Section.{of_degree}
use Rattle.digit_rules.specs.Digits.{operation_check}
use Rattle.ring.specs.declared.Operation.{Operation}
use Rattle.faults.specs.Passed.{passed}
use mathlib.Core.Path.{sym, ap, ◌∙◌}
use Rattle.faults.proofs.Passed.{ok_of}
use Rattle.digit_check.proofs.operation_rule.Goals as goal

pub returns-in-Plus : goal.returns-in-Plus
unfolding operation_check
returns-in-Plus c = ok_of (ap (λ (o : Operation). operation_check o (of_degree c.args.degree c.args.alphabet.now) (of_degree c.args.degree c.args.inputs.now)) (sym c.in-Plus.is))

pub returns-in-Minus : goal.returns-in-Minus
returns-in-Minus c = c.difference_rule.ensures ∙ ap (λ (o : Operation). passed (operation_check o (of_degree c.args.degree c.args.alphabet.now) (of_degree c.args.degree c.args.inputs.now))) (sym c.in-Minus.is)
