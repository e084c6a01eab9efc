-- Degree two was told where the function for it is called.
use Rattle.digit_check.proofs.alphabet_rule_by.Goals as goal

pub returns-in-Two : goal.returns-in-Two
returns-in-Two c = rw c.in-Two.is c.alphabet_rule_at_two.ensures
