-- The first answer as it stands; the second, and the buffers, of what the first edit left.
use Rattle.edit_rules.specs.Edit.{edit_outcome, edit_state}
use mathlib.Core.Path.{ap, ◌∙◌}
use Rattle.edit_orders.proofs.in_turn.Goals as goal

pub returns : goal.returns
returns c =
    let a = c.args in
    let one = c.edit-answer.ensures in
    let two = c.edit-next.ensures in
    λ i. record { first = one.outcome i; second = (two.outcome ∙ ap (edit_outcome a.table.now a.f) one.buffers) i; buffers = (two.buffers ∙ ap (edit_state a.table.now a.f) one.buffers) i }
