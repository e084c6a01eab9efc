-- The value's outcome in words.
use mathlib.Core.Path.{◌∙◌}
use Rattle.lists.specs.Overwrite.{overwrite}
use Rattle.layout_rules.specs.Section.{degree_in}
use Rattle.midpoint.specs.Midpoint.{parts}
use Rattle.faults.specs.Answer.{outcome_by}
use Rattle.answer_rules.proofs.Answer.{short, told}
use Rattle.answer_rules.specs.Answer.{outcome_words, element_words}
use Rattle.value_call_rules.specs.Value.{value_outcome}
use Rattle.adder_c.proofs.yoyomyrtle_value.Goals as goal

pub returns-then-answer-lt8 : goal.returns-then-answer-lt8
returns-then-answer-lt8 c =
    let a = c.args in
    let made = short (element_words (degree_in a.table.now)) (value_outcome a.table.now a.row.now) a.answer.now c.if-answer-lt8.true in
    record { outcome = made.0; answer = made.1 }

pub returns : goal.returns
returns c =
    let a = c.args in
    let words = c.valued.ensures.answer ∙ (λ i. overwrite a.answer.now 0 (outcome_words (element_words (c.degree_in-degree.ensures i)) (outcome_by parts c.value.result))) in
    let made = told (element_words (degree_in a.table.now)) (value_outcome a.table.now a.row.now) a.answer.now _ _ _ c.if-answer-lt8.false c.value.ensures c.valued.ensures.status words in
    record { outcome = made.0; answer = made.1 }
