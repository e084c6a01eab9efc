-- Degree two was told where the function for it is called.
use Rattle.digit_sums.proofs.link_by.Goals as goal

pub link_at_two-requires : goal.link_at_two-requires
link_at_two-requires c = rw c.in-Two.is at c.requires
