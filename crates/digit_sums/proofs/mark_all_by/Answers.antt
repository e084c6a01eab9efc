-- Degree two was told where the function for it is called.
use Rattle.digit_sums.proofs.mark_all_by.Goals as goal

pub returns-in-Two : goal.returns-in-Two
returns-in-Two c = rw c.in-Two.is record { listed = c.mark_all_at_two.ensures.listed; marked = c.mark_all_at_two.ensures.marked }
