-- Degree two was told where the function for it is called.
use Rattle.pair_digits.proofs.gives_digit_by.Goals as goal

pub gives_digit_at_two-requires : goal.gives_digit_at_two-requires
gives_digit_at_two-requires c = rw c.in-Two.is at c.requires

pub returns-in-Two : goal.returns-in-Two
returns-in-Two c = rw c.in-Two.is c.gives_digit_at_two.ensures
