-- The number of edits or the fault, by the answer's case.
use Rattle.answer_rules.proofs.Answer.{facts_told, fault_told}
use Rattle.answer_rules.specs.Answer.{run_words}
use Rattle.faults.specs.Answer.{outcome_of}
use mathlib.Core.Path.{ap}
use Rattle.answers.proofs.ran.Goals as goal

pub returns-in-Ok : goal.returns-in-Ok
returns-in-Ok c =
    let told = facts_told run_words (outcome_of c.args.given) c.args.answer.now c.in-Ok.f _ _ (ap outcome_of c.in-Ok.is) c.put_number.ensures.status c.put_number.ensures.answer in
    record { status = told.0; answer = told.1 }

pub returns-in-Err : goal.returns-in-Err
returns-in-Err c =
    let told = fault_told run_words (outcome_of c.args.given) c.args.answer.now c.in-Err.fault _ _ (ap outcome_of c.in-Err.is) c.refuse.ensures.status c.refuse.ensures.answer in
    record { status = told.0; answer = told.1 }
