-- Each of the four sections is kept, so all in turn.
use Rattle.layout_rules.specs.Limit.{limit_check_of, limit_check}
use Rattle.faults.proofs.Check.{turn_on, turn_out}
use Rattle.faults.specs.Check.{none}
use Rattle.lists.proofs.Test.{clash}
use mathlib.Core.Path.{refl, sym, ◌∙◌}
use native.Mathlib.Omega.{arith}
use Rattle.limits.proofs.sections_at_two.Goals.{then-section_at_two, else-section_at_two, then-section_at_two-2, else-section_at_two-2}
use Rattle.limits.proofs.sections_at_two.Goals as goal

pub returns-then-section_at_two-3 : goal.returns-then-section_at_two-3
unfolding limit_check
returns-then-section_at_two-3 c = λ yes told.
    let each = limit_check_of c.args.file.now in
    elim c.if-section_at_two-2.branch [
      | else-section_at_two-2 w ↦ clash c.if-section_at_two-3.true (w.value-is ∙ w.if-section_at_two-2.false)
      | then-section_at_two-2 w ↦ elim c.if-section_at_two.branch [
        | else-section_at_two v ↦ clash w.if-section_at_two-2.true (v.value-is ∙ v.if-section_at_two.false)
        | then-section_at_two v ↦
            sym (turn_on each 0 4 none (c.section_at_two.ensures v.if-section_at_two.true told) (omega arith) refl
            ∙ turn_on each 1 4 none (v.section_at_two-then-section_at_two.ensures (sym v.value-is ∙ w.if-section_at_two-2.true) told) (omega arith) refl
            ∙ turn_on each 2 4 none (w.section_at_two-then-section_at_two-2.ensures (sym w.value-is ∙ c.if-section_at_two-3.true) told) (omega arith) refl
            ∙ turn_on each 3 4 none (c.section_at_two-then-section_at_two-3.ensures yes told) (omega arith) refl
            ∙ turn_out each 4 4 (omega arith))
      ]
    ]
