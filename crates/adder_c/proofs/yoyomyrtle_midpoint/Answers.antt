-- The midpoint of the two elements in words; it has no fault.
use Rattle.ring.specs.declared.Degree.TheVariants.{Four}
use Rattle.lists.proofs.Cons.{cons≡}
use mir.ValLaws.{to_z-of_z}
use mir.Syntax.{w32}
use mathlib.Core.Path.{ap, ap₂, refl, ◌∙◌}
use mathlib.Core.List.{[], ◌∷◌}
use Rattle.midpoint.specs.Midpoint.{parts, midpoint_of}
use Rattle.faults.specs.Outcome.{facts}
use Rattle.answer_rules.specs.Answer.{element_words}
use Rattle.answer_rules.proofs.Answer.{short, told, facts_told}
use Rattle.adder_c.proofs.yoyomyrtle_midpoint.Goals as goal

pub returns-then-answer-lt8 : goal.returns-then-answer-lt8
returns-then-answer-lt8 c =
    let a = c.args in
    let made = short (element_words Four) (facts (midpoint_of (a.a1 ∷ a.b1 ∷ a.c1 ∷ a.d1 ∷ []) (a.a2 ∷ a.b2 ∷ a.c2 ∷ a.d2 ∷ []))) a.answer.now c.if-answer-lt8.true in
    record { outcome = made.0; answer = made.1 }

pub returns : goal.returns
returns c =
    let a = c.args in
    let fits = c.ranges in
    let x = cons≡ (to_z-of_z w32 a.a1 fits.a1) (cons≡ (to_z-of_z w32 a.b1 fits.b1) (cons≡ (to_z-of_z w32 a.c1 fits.c1) (cons≡ (to_z-of_z w32 a.d1 fits.d1) refl))) in
    let y = cons≡ (to_z-of_z w32 a.a2 fits.a2) (cons≡ (to_z-of_z w32 a.b2 fits.b2) (cons≡ (to_z-of_z w32 a.c2 fits.c2) (cons≡ (to_z-of_z w32 a.d2 fits.d2) refl))) in
    let middle = parts c.midpoint.result in
    let put = facts_told (element_words Four) (facts middle) a.answer.now middle _ _ refl c.put_element.ensures.status c.put_element.ensures.answer in
    let is = ap facts (c.midpoint.ensures ∙ ap₂ midpoint_of x y) in
    let made = told (element_words Four) (facts (midpoint_of (a.a1 ∷ a.b1 ∷ a.c1 ∷ a.d1 ∷ []) (a.a2 ∷ a.b2 ∷ a.c2 ∷ a.d2 ∷ []))) a.answer.now (facts middle) _ _ c.if-answer-lt8.false is put.0 put.1 in
    record { outcome = made.0; answer = made.1 }
