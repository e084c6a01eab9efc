-- The element or the fault, by the answer's case.
use Rattle.answer_rules.proofs.Answer.{facts_told, fault_told}
use Rattle.answer_rules.specs.Answer.{element_words}
use Rattle.faults.specs.Answer.{outcome_by}
use mathlib.Core.Path.{ap}
use Rattle.midpoint.specs.Midpoint.{parts}
use Rattle.answers.proofs.valued.Goals as goal

pub returns-in-Ok : goal.returns-in-Ok
returns-in-Ok c =
    let told = facts_told (element_words c.args.degree) (outcome_by parts c.args.given) c.args.answer.now (parts c.in-Ok.x) _ _ (ap (outcome_by parts) c.in-Ok.is) c.put_element.ensures.status c.put_element.ensures.answer in
    record { status = told.0; answer = told.1 }

pub returns-in-Err : goal.returns-in-Err
returns-in-Err c =
    let told = fault_told (element_words c.args.degree) (outcome_by parts c.args.given) c.args.answer.now c.in-Err.fault _ _ (ap (outcome_by parts) c.in-Err.is) c.refuse.ensures.status c.refuse.ensures.answer in
    record { status = told.0; answer = told.1 }
