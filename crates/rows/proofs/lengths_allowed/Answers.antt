-- More than 256 is no; else the two lengths are compared.
use Rattle.row_rules.proofs.Allowed.{over, not_over}
use Rattle.rows.proofs.lengths_allowed.Goals as goal

pub returns-then-n-le256 : goal.returns-then-n-le256
returns-then-n-le256 c = not_over _ _ c.if-n-le256.true

pub returns-else-n-le256 : goal.returns-else-n-le256
returns-else-n-le256 c = over _ _ c.if-n-le256.false
