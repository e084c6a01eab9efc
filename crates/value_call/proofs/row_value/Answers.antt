-- Rules 20 and 21 for the alphabet of the table, then the value with its sections.
use mathlib.Core.Path.{◌≡◌, sym, ap, subst, ◌∙◌}
use mathlib.Core.List.{List}
use Prim.Native.Nat.{ℕ}
use Rattle.std.proofs.Common.{Result}
use lib.Dec.{lit<}
use Rattle.faults.proofs.Answer.{fault_found, nothing_found}
use Rattle.faults.proofs.Passed.{ok_kept}
use Rattle.faults.specs.Passed.{passed}
use Rattle.faults.specs.Stated.{refused_by}
use Rattle.faults.specs.Outcome.{rows}
use Rattle.faults.specs.declared.Refusal.{Refusal}
use Rattle.digit_rules.specs.BaseMatrix.{base_matrix}
use Rattle.digit_rules.specs.Digits.{BasePart}
use Rattle.digit_rules.specs.Record.{element_count}
use Rattle.reader_rules.proofs.Kept.{layout_kept, table_kept, sections, section_is}
use Rattle.reader_rules.specs.Table.{alphabet_part}
use Rattle.row_rules.proofs.Fit.{row_fits}
use Rattle.row_rules.specs.Check.{one_row_check}
use Rattle.row_rules.specs.Fit.{Indexes}
use Rattle.row_value_rules.specs.Total.{worth_of}
use Rattle.value_call_rules.specs.Value.{row_outcome}
use Rattle.value_call.proofs.row_value.Goals as goal

-- rules 20 and 21 as they were asked, with the alphabet's size
asked : (table row : List ℕ) (digits : ℕ) {answer : Result Unit Refusal} → digits ≡ element_count (alphabet_part table) → answer ≡ passed (one_row_check row digits) → answer ≡ passed (one_row_check row (element_count (alphabet_part table)))
asked table row digits size is = is ∙ ap (λ n. passed (one_row_check row n)) size

pub returns-in-Err : goal.returns-in-Err
unfolding row_outcome
returns-in-Err c = fault_found rows _ _ _ (asked c.args.table.now c.args.row.now _ c.requires.1 c.in-Err.ensures) (ap refused_by c.by_rows.ensures)

pub section-requires : goal.section-requires
section-requires c = ((layout_kept c.args.table.now (table_kept c.args.table.now c.requires.0).0).0, lit< tt)

pub section-requires-2 : goal.section-requires-2
section-requires-2 c = ((layout_kept c.args.table.now (table_kept c.args.table.now c.requires.0).0).0, lit< tt)

pub total-requires : goal.total-requires
total-requires c =
    let table = c.args.table.now in
    let told = c.degree_in-degree.ensures in
    let row = c.args.row.now in
    let digits = element_count (alphabet_part c.args.table.now) in
    let kept = asked table row _ c.requires.1 c.in_default.ensures in
    (subst BasePart (sym (section_is table _ _ 0 told c.section.ensures)) (sections c.args.table.now c.requires.0).base, subst (λ a. Indexes (element_count a) row) (sym (section_is table _ _ 1 told c.section-2.ensures)) (row_fits row digits (ok_kept _ (sym kept))).indexes)

pub returns : goal.returns
unfolding row_outcome
returns c =
    let table = c.args.table.now in
    let told = c.degree_in-degree.ensures in
    let row = c.args.row.now in
    let digits = element_count (alphabet_part c.args.table.now) in
    let kept = asked table row _ c.requires.1 c.in_default.ensures in
    c.total.ensures ∙ (λ i. worth_of (base_matrix (section_is table _ _ 0 told c.section.ensures i)) (section_is table _ _ 1 told c.section-2.ensures i) row) ∙ nothing_found rows (one_row_check row digits) _ kept
