-- Degree two was told where the function for it is called.
use Rattle.weight_sets.proofs.number_weights_by.Goals as goal

pub number_weights_at_two-requires : goal.number_weights_at_two-requires
number_weights_at_two-requires c = rw c.in-Two.is at c.requires

pub returns-in-Two : goal.returns-in-Two
returns-in-Two c = rw c.in-Two.is c.number_weights_at_two.ensures
