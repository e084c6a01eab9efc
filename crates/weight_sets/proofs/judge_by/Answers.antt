-- Degree two was told where the function for it is called.
use Rattle.weight_sets.proofs.judge_by.Goals as goal

pub returns-in-Two : goal.returns-in-Two
returns-in-Two c = rw c.in-Two.is c.judge_at_two.ensures

pub judge_at_two-requires-clause-part : goal.judge_at_two-requires-clause-part
judge_at_two-requires-clause-part c = rw c.in-Two.is at c.requires.part
