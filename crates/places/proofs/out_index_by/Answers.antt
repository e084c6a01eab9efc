-- Degree two was told where the function for it is called.
use Rattle.places.proofs.out_index_by.Goals as goal

pub out_index_at_two-requires : goal.out_index_at_two-requires
out_index_at_two-requires c = record { sizes = rw c.in-Two.is at c.requires.sizes; alphabet = rw c.in-Two.is at c.requires.alphabet }

pub returns-in-Two : goal.returns-in-Two
returns-in-Two c = rw c.in-Two.is (record { index = c.out_index_at_two.ensures.index; slots = c.out_index_at_two.ensures.slots })
