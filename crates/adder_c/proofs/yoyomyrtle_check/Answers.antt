-- The check's outcome in words.
use Rattle.answer_rules.proofs.Answer.{short, told}
use Rattle.answer_rules.specs.Answer.{check_words}
use Rattle.table_rules.specs.Check.{check_outcome}
use Rattle.adder_c.proofs.yoyomyrtle_check.Goals as goal

pub returns-then-answer-lt8 : goal.returns-then-answer-lt8
returns-then-answer-lt8 c =
    let made = short check_words (check_outcome c.args.file.now) c.args.answer.now c.if-answer-lt8.true in
    record { outcome = made.0; answer = made.1 }

pub returns : goal.returns
returns c =
    let a = c.args in
    let made = told check_words (check_outcome a.file.now) a.answer.now _ _ _ c.if-answer-lt8.false c.check.ensures c.checked.ensures.status c.checked.ensures.answer in
    record { outcome = made.0; answer = made.1 }
