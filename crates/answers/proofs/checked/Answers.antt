-- h, leaf count, alphabet size and number of fitting pairs or the fault, by the answer's case.
use mathlib.Core.Path.{refl, ap, ◌∙◌}
use Rattle.lists.specs.Overwrite.{overwrite}
use Rattle.lists.proofs.Cons.{cons≡}
use Rattle.faults.specs.Answer.{outcome_of}
use Rattle.answer_rules.specs.Answer.{check_words}
use Rattle.answer_rules.proofs.Bits.{kept}
use Rattle.answer_rules.proofs.Answer.{facts_told, fault_told}
use Rattle.answers.proofs.checked.Goals as goal

pub returns-in-Ok : goal.returns-in-Ok
returns-in-Ok c =
    let a = c.args in
    let depth = c.word in
    let leaves = c.word-in-Ok in
    let digits = c.word-in-Ok-2 in
    let pairs = c.word-in-Ok-3 in
    let last = cons≡ (kept digits.result c.in-Ok.f.digits digits.type_inv digits.ensures) (cons≡ (kept pairs.result c.in-Ok.f.pairs pairs.type_inv pairs.ensures) refl) in
    let first = cons≡ (kept depth.result c.in-Ok.f.depth depth.type_inv depth.ensures) (cons≡ (kept leaves.result c.in-Ok.f.leaves leaves.type_inv leaves.ensures) last) in
    let told = facts_told check_words (outcome_of a.given) a.answer.now c.in-Ok.f 0 _ (ap outcome_of c.in-Ok.is) refl (c.put.ensures ∙ ap (overwrite a.answer.now 0) (cons≡ refl first)) in
    record { status = told.0; answer = told.1 }

pub returns-in-Err : goal.returns-in-Err
returns-in-Err c =
    let told = fault_told check_words (outcome_of c.args.given) c.args.answer.now c.in-Err.fault _ _ (ap outcome_of c.in-Err.is) c.refuse.ensures.status c.refuse.ensures.answer in
    record { status = told.0; answer = told.1 }
