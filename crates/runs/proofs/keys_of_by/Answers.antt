-- Degree two was told where the function for it is called.
use Rattle.runs.proofs.keys_of_by.Goals as goal

pub returns-in-Two : goal.returns-in-Two
returns-in-Two c = rw c.in-Two.is c.keys_of_at_two.ensures
