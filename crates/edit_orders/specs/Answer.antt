-- The answers of two edits with the buffers after them.
use Rattle.faults.specs.Answer.{outcome_of}
use Rattle.edit_rules.specs.State.{State}
use Rattle.edit_rules.specs.Orders.{InTurn}
use Rattle.edit_orders.specs.declared.Turns.{Turns}

abbrev pub turns_of : Turns → State → InTurn
turns_of r buffers = record { first = outcome_of r.first; second = outcome_of r.second; buffers = buffers }
