-- Each order as it was found; that they agree is the law of two edits.
use Rattle.edit_rules.proofs.Orders.{agree_found}
use Rattle.edit_orders.proofs.both_orders.Goals as goal

pub returns : goal.returns
returns c =
    let forth = c.in_turn-forth.ensures in
    let back = c.in_turn-back.ensures in
    record { forth = forth; back = back; agree = λ accepted same adds. agree_found _ accepted _ _ _ _ _ _ forth back same adds }
