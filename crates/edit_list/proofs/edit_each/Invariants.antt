-- The edits one by one: after i of them the buffers and the answers are those of the first i of the list.
use Rattle.edit_rules.specs.State.{state}
use Rattle.runner_rules.proofs.Steps.{AfterEdits}
use Rattle.edit_list.proofs.edit_each.Given as goal

abbrev pub invariant-loop-i : goal.invariant-loop-i
invariant-loop-i l =
    AfterEdits l.rows l.places l.digits l.table (state l.initial.first l.initial.second l.initial.sum) l.initial.whose l.initial.numbers l.initial.values l.i (state l.first l.second l.sum) l.whose l.numbers l.values
