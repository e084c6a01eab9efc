-- A test of one thing is a scan over one place.
use Rattle.faults.proofs.Passed.{once_passed, once_found}
use Rattle.rows.proofs.judge_one.Goals as goal

pub returns-then-allowed : goal.returns-then-allowed
returns-then-allowed c = once_passed c.args.number (λ k. k) c.args.allowed c.if-allowed.true

pub returns-else-allowed : goal.returns-else-allowed
returns-else-allowed c = once_found c.args.number (λ k. k) c.args.allowed c.requires c.if-allowed.false
