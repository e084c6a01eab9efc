use Rattle.std.proofs.Common.{◌<◌, length, ap, ◌∙◌, arith}
use Rattle.edit_rules.specs.State.{state}
use Rattle.runner_rules.specs.Told.{told_of}
use Rattle.runner_rules.proofs.Steps.{after_none, after_next}
use Rattle.edit_list.proofs.edit_each.Goals as goal

pub loop-i-init : goal.loop-i-init
loop-i-init c =
    let a = c.args in
    after_none a.rows.now a.places.now a.digits.now a.table.now (state a.first.now a.second.now a.sum.now) a.whose.now a.numbers.now a.values.now

pub loop-i-preserved : goal.loop-i-preserved
loop-i-preserved c =
    let a = c.args in
    let l = c.loop-i in
    let in-whose : l.i < length a.whose.now = omega (arith, c.requires.room.0) in
    let in-numbers : l.i < length a.numbers.now = omega (arith, c.requires.room.1) in
    let in-values : l.i < length a.values.now = omega (arith, c.requires.room.2) in
    let edit = c.edit-edited in
    let told = c.told_of-told in
    after_next a.rows.now a.places.now a.digits.now a.table.now (state a.first.now a.second.now a.sum.now) a.whose.now a.numbers.now a.values.now
    l.i (state l.first l.second l.sum) _ l.whose l.numbers l.values told.result
    l.invariant in-whose in-numbers in-values (told.ensures ∙ ap told_of edit.ensures.outcome) edit.ensures.buffers
