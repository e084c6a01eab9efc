-- How many bytes the string has, the leaves and the digit, the count 0, or the fault, by the answer's case.
use mathlib.Core.Path.{ap, ◌∙◌}
use Rattle.faults.specs.Outcome.{facts}
use Rattle.answer_rules.proofs.Answer.{facts_told, fault_told}
use Rattle.answer_rules.specs.Answer.{bad_row_words}
use Rattle.bad_row.specs.Answer.{facts_of, shows_of}
use Rattle.faults.specs.Answer.{outcome_by}
use Rattle.bad_row_rules.specs.Shows.{row, nothing}
use Rattle.answers.proofs.shown.Goals as goal

pub returns-in-Some : goal.returns-in-Some
returns-in-Some c =
    let a = c.args in
    let told = facts_told (bad_row_words a.degree) (outcome_by shows_of a.given) a.answer.now (row (facts_of c.in-Some.r)) _ _ (ap (outcome_by shows_of) c.in-Ok.is ∙ ap (λ o. facts (shows_of o)) c.in-Some.is) c.put_numbers_element.ensures.status c.put_numbers_element.ensures.answer in
    record { status = told.0; answer = told.1 }

pub returns-in-None : goal.returns-in-None
returns-in-None c =
    let a = c.args in
    let told = facts_told (bad_row_words a.degree) (outcome_by shows_of a.given) a.answer.now nothing _ _ (ap (outcome_by shows_of) c.in-Ok.is ∙ ap (λ o. facts (shows_of o)) c.in-None.is) c.put_number.ensures.status c.put_number.ensures.answer in
    record { status = told.0; answer = told.1 }

pub returns-in-Err : goal.returns-in-Err
returns-in-Err c =
    let a = c.args in
    let told = fault_told (bad_row_words a.degree) (outcome_by shows_of a.given) a.answer.now c.in-Err.fault _ _ (ap (outcome_by shows_of) c.in-Err.is) c.refuse.ensures.status c.refuse.ensures.answer in
    record { status = told.0; answer = told.1 }
