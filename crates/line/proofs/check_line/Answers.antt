-- The check, then its line.
use Rattle.line.proofs.check_line.Goals as goal

pub returns-clause-count : goal.returns-clause-count
returns-clause-count c = rw (← c.check.ensures) (c.line.ensures.count)

pub returns-clause-buffer : goal.returns-clause-buffer
returns-clause-buffer c = rw (← c.check.ensures) (c.line.ensures.buffer)
