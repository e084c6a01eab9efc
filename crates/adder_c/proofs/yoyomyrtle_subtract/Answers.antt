-- Subtraction's outcome in words, and its buffer.
use Rattle.answer_rules.proofs.Answer.{not_operated, as_operated}
use Rattle.ring.specs.declared.Operation.TheVariants.{Minus}
use Rattle.adder_c.proofs.yoyomyrtle_subtract.Goals as goal

pub returns-then-answer-lt8 : goal.returns-then-answer-lt8
returns-then-answer-lt8 c =
    let a = c.args in
    let made = not_operated Minus a.table.now a.first.now a.second.now a.difference.now a.answer.now c.if-answer-lt8.true in
    record { outcome = made.0; difference = made.1 }

pub returns : goal.returns
returns c =
    let a = c.args in
    let given = c.subtract.ensures in
    let put = c.added.ensures in
    let made = as_operated Minus a.table.now a.first.now a.second.now a.difference.now a.answer.now _ _ _ _ c.if-answer-lt8.false (given.outcome, given.difference) (put.status, put.answer) in
    record { outcome = made.0; difference = made.1 }
