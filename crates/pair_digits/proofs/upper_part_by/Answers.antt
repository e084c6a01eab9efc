-- Degree two was told where the function for it is called.
use Rattle.pair_digits.proofs.upper_part_by.Goals as goal

pub upper_part_at_two-requires : goal.upper_part_at_two-requires
upper_part_at_two-requires c = rw c.in-Two.is at c.requires
