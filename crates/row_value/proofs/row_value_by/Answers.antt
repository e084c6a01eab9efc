-- Degree two was told where the function for it is called.
use Rattle.row_value.proofs.row_value_by.Goals as goal

pub row_value_at_two-requires : goal.row_value_at_two-requires
row_value_at_two-requires c = rw c.in-Two.is at c.requires

pub returns-in-Two : goal.returns-in-Two
returns-in-Two c = rw c.in-Two.is c.row_value_at_two.ensures
