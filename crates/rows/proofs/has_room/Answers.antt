-- What is left of the buffer above n places.
use Rattle.row_rules.proofs.Allowed.{no_room, some_room}
use Rattle.rows.proofs.has_room.Goals as goal

pub returns-then-n-sum : goal.returns-then-n-sum
returns-then-n-sum c = some_room _ _ _ c.if-n-sum.true

pub returns-else-n-sum : goal.returns-else-n-sum
returns-else-n-sum c = no_room _ _ _ c.if-n-sum.false
