-- One case for each answer.
use mathlib.Core.List.{List}
use mathlib.Core.Path.{◌≡◌, sym, ap, ◌∙◌}
use Prim.Native.Nat.{ℕ, ◌≤◌}
use lib.ListN.{length, get_or, get_or-eq_default}
use Rattle.std.proofs.Common.{Option, Some, None}
use Rattle.row_rules.specs.declared.Change.{Change}
use Rattle.row_rules.proofs.Changed.{changed_other, changed_outside, changed_elsewhere, changed_here}
use Rattle.rows.specs.ChangedBy.{changed_by}
use Rattle.rows.proofs.byte_at.Goals.{else-change-number-via-then-change-number+else-change-place, else-change-number-via-else-change-number}
use Rattle.rows.proofs.byte_at.Goals as goal

outside : (change : Option Change) (number : ℕ) (row : List ℕ) (place : ℕ) → length row ≤ place → get_or (changed_by change number row) place 0 ≡ 0
outside (Some one) number row place h = changed_outside one number row place h
outside None number row place h = get_or-eq_default row 0 {n = place} h

pub returns-then-row-place : goal.returns-then-row-place
returns-then-row-place c = sym (outside _ _ _ _ c.if-row-place.true)

pub returns-then-change-place : goal.returns-then-change-place
returns-then-change-place c =
    let a = c.args in
    sym (ap (λ (o : Option Change). get_or (changed_by o a.number a.row.now) a.place 0) c.in-Some.is ∙ changed_here _ _ _ _ c.if-change-number.true c.if-change-place.true c.if-row-place.false)

pub returns-else-change-number : goal.returns-else-change-number
returns-else-change-number c =
    let a = c.args in
    sym (
    ap (λ (o : Option Change). get_or (changed_by o a.number a.row.now) a.place 0) c.in-Some.is
    ∙ elim c.else-change-number.branch [
      | else-change-number-via-then-change-number+else-change-place w ↦ changed_elsewhere _ _ _ _ w.if-change-place.false
      | else-change-number-via-else-change-number w ↦ ap (λ (r : List ℕ). get_or r a.place 0) (changed_other _ _ _ w.if-change-number.false)
    ]
    )
