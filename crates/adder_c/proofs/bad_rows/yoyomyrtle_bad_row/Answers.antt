-- The outcome of the call that shows a bad row in words, and the string, which it wrote into nine bytes copied from the buffer.
use mathlib.Core.Path.{refl, ◌∙◌}
use Rattle.answer_rules.proofs.Shown.{no_words, no_bytes, as_shown}
use Rattle.answer_rules.specs.Answer.{outcome_words, bad_row_words}
use Rattle.bad_row.specs.Answer.{shows_of}
use Rattle.faults.specs.Answer.{outcome_by}
use Rattle.layout_rules.specs.Section.{degree_in}
use Rattle.lists.specs.Overwrite.{overwrite}
use Rattle.adder_c.proofs.bad_rows.yoyomyrtle_bad_row.Goals as goal

pub returns-then-answer-lt8 : goal.returns-then-answer-lt8
returns-then-answer-lt8 c =
    let a = c.args in
    let made = no_words (degree_in a.table.now) a.table.now a.string.now a.answer.now c.if-answer-lt8.true in
    record { outcome = made.0; answer = made.1.0; string = made.1.1 }

pub returns-then-string-lt9 : goal.returns-then-string-lt9
returns-then-string-lt9 c =
    let a = c.args in
    let made = no_bytes (degree_in a.table.now) a.table.now a.string.now a.answer.now c.if-string-lt9.true in
    record { outcome = made.0; answer = made.1.0; string = made.1.1 }

pub returns : goal.returns
returns c =
    let a = c.args in
    let words = c.shown-status.ensures.answer ∙ (λ i. overwrite a.answer.now 0 (outcome_words (bad_row_words (c.degree_in-degree.ensures i)) (outcome_by shows_of c.bad_row.result))) in
    let made = as_shown (degree_in a.table.now) a.table.now a.string.now a.answer.now _ _ _ _ _ _ _ c.if-answer-lt8.false c.if-string-lt9.false
    c.put.ensures.written refl c.put_nine.ensures.nine (c.bad_row.ensures.answer, c.bad_row.ensures.string) (c.shown-status.ensures.status, words)
    c.put_nine.ensures.written in
    record { outcome = made.0; answer = made.1.0; string = made.1.1 }
