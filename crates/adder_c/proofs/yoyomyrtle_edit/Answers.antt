-- The edit's outcome in words, and the three buffers as it leaves them.
use Rattle.answer_rules.proofs.Answer.{no_room, some_room, short, told}
use Rattle.answer_rules.specs.Answer.{edit_words}
use Rattle.edit_rules.specs.State.{State, state}
use Rattle.edit_rules.specs.Edit.{edit_outcome, edit_state}
use Rattle.row_rules.specs.declared.Change.{Change}
use mathlib.Core.Path.{◌∙◌}
use lib.ListN.{length}
use Rattle.adder_c.proofs.yoyomyrtle_edit.Goals as goal

pub returns-then-answer-lt8 : goal.returns-then-answer-lt8
returns-then-answer-lt8 c =
    let a = c.args in
    let s : State = state a.first.now a.second.now a.sum.now in
    let e : Change = record { row = a.row; place = a.place; digit = a.digit } in
    let room = c.if-answer-lt8.true in
    record { outcome = short edit_words (edit_outcome a.table.now e s) a.answer.now room; buffers = no_room 8 (length a.answer.now) (edit_state a.table.now e s) s room }

pub returns : goal.returns
returns c =
    let a = c.args in
    let s : State = state a.first.now a.second.now a.sum.now in
    let e : Change = record { row = a.row; place = a.place; digit = a.digit } in
    let room = c.if-answer-lt8.false in
    let given = c.edit-given.ensures in
    let put = c.edited.ensures in
    record {
      outcome = told edit_words (edit_outcome a.table.now e s) a.answer.now _ _ _ room given.outcome put.status put.answer;
      buffers = given.buffers ∙ some_room 8 (length a.answer.now) (edit_state a.table.now e s) s room;
    }
