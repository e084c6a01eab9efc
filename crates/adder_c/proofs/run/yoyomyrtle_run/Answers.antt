-- The run's outcome in words, and the buffers and slices of answers as it leaves them.
use Rattle.answer_rules.proofs.Answer.{short, told, not_run, as_run}
use Rattle.answer_rules.specs.Answer.{run_words}
use Rattle.edit_rules.specs.State.{State, state}
use Rattle.runner_rules.specs.Run.{asked_edits, run_outcome}
use Rattle.row_rules.specs.declared.Change.{Change}
use lib.ListN.{length}
use mathlib.Core.List.{List}
use Rattle.adder_c.proofs.run.yoyomyrtle_run.Goals as goal

pub returns-then-answer-lt8 : goal.returns-then-answer-lt8
returns-then-answer-lt8 c =
    let a = c.args in
    let s : State = state a.first.now a.second.now a.sum.now in
    let es : List Change = asked_edits a.rows.now a.places.now a.digits.now a.whose.now a.numbers.now a.values.now in
    let room = c.if-answer-lt8.true in
    let made = not_run (length a.answer.now) a.table.now s es a.whose.now a.numbers.now a.values.now room in
    record { outcome = short run_words (run_outcome a.table.now s (length es)) a.answer.now room; buffers = made.0; answers = made.1 }

pub returns : goal.returns
returns c =
    let a = c.args in
    let s : State = state a.first.now a.second.now a.sum.now in
    let es : List Change = asked_edits a.rows.now a.places.now a.digits.now a.whose.now a.numbers.now a.values.now in
    let room = c.if-answer-lt8.false in
    let given = c.run-given.ensures in
    let put = c.ran.ensures in
    let made = as_run (length a.answer.now) a.table.now s es a.whose.now a.numbers.now a.values.now _ _ _ _ room given.buffers given.answers.0 given.answers.1 given.answers.2 in
    record { outcome = told run_words (run_outcome a.table.now s (length es)) a.answer.now _ _ _ room given.outcome put.status put.answer; buffers = made.0; answers = made.1 }
