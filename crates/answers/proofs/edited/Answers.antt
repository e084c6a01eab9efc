-- The count and the reach or the fault, by the answer's case.
use Rattle.answer_rules.proofs.Answer.{facts_told, fault_told}
use Rattle.answer_rules.specs.Answer.{edit_words}
use Rattle.faults.specs.Answer.{outcome_of}
use mathlib.Core.Path.{ap}
use Rattle.answers.proofs.edited.Goals as goal

pub returns-in-Ok : goal.returns-in-Ok
returns-in-Ok c =
    let told = facts_told edit_words (outcome_of c.args.given) c.args.answer.now c.in-Ok.f _ _ (ap outcome_of c.in-Ok.is) c.put_numbers.ensures.status c.put_numbers.ensures.answer in
    record { status = told.0; answer = told.1 }

pub returns-in-Err : goal.returns-in-Err
returns-in-Err c =
    let told = fault_told edit_words (outcome_of c.args.given) c.args.answer.now c.in-Err.fault _ _ (ap outcome_of c.in-Err.is) c.refuse.ensures.status c.refuse.ensures.answer in
    record { status = told.0; answer = told.1 }
