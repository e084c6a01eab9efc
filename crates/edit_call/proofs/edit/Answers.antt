-- The edit: the table's fault by the reader is passed on, then the rows' by 20 to 23, then the editor's by 24 to 26; else the digits are renewed.
use mathlib.Core.Path.{◌≡◌, sym, ap, ◌∙◌}
use mathlib.Core.List.{List}
use Prim.Native.Nat.{ℕ}
use native.Mathlib.Omega.{arith}
use lib.ListN.{length}
use Rattle.std.proofs.Common.{Result, Ok}
use Rattle.faults.specs.declared.Refusal.{Refusal}
use Rattle.faults.specs.Outcome.{rows, editor}
use Rattle.faults.specs.Stated.{refused_by}
use Rattle.faults.specs.Passed.{passed}
use Rattle.faults.proofs.Answer.{exit_states, fault_found}
use Rattle.faults.proofs.Passed.{ok_kept}
use Rattle.row_rules.specs.declared.Change.{Change}
use Rattle.row_rules.specs.Check.{row_check, edit_check}
use Rattle.row_rules.specs.Fit.{EditFits}
use Rattle.row_rules.proofs.Fit.{rows_fit, edit_fits}
use Rattle.reader_rules.specs.TableFacts.{table_facts}
use Rattle.reader_rules.specs.declared.Table.{Table}
use Rattle.reader_rules.proofs.Answer.{Told, found_facts}
use Rattle.reader_rules.proofs.Ready.{ready_passed}
use Rattle.adder_rules.specs.Sum.{digit_count}
use Rattle.edit_rules.specs.State.{State, state}
use Rattle.edit_rules.proofs.Stages.{rows_found, asked_found, table_refused, rows_stage, edit_stage, edit_passed, state_lent, state_by}
use Rattle.edit_call.proofs.edit.Goals as goal

-- the two checks as they were asked, with the alphabet's size and the depth
module _ (table : List ℕ) (e : Change) (s : State) (t : Table) (told : Told table t) where
  abbrev Rows : Result Unit Refusal
  Rows = passed (row_check s.first s.second (length s.sum) t.alphabet.count t.depth)

  abbrev Edit : Result Unit Refusal
  Edit = passed (edit_check e.row e.place e.digit (length s.first) t.alphabet.count)

  rows_asked : {answer : Result Unit Refusal} → answer ≡ Rows → answer ≡ passed (rows_found table e s)
  rows_asked is = is ∙ (λ i. passed (row_check s.first s.second (length s.sum) (told.size i) (told.depth i)))

  edit_asked : {answer : Result Unit Refusal} → answer ≡ Edit → answer ≡ passed (asked_found table e s)
  edit_asked is = is ∙ (λ i. passed (edit_check e.row e.place e.digit (length s.first) (told.size i)))

  fitting : {u : Unit} → Ok u ≡ Rows → (rows_found table e s).number ≡ 0
  fitting is = ok_kept _ (sym (rows_asked is))

  taken : {u : Unit} → Ok u ≡ Edit → (asked_found table e s).number ≡ 0
  taken is = ok_kept _ (sym (edit_asked is))

  fits : {u : Unit} → Ok u ≡ Edit → EditFits e.row e.place e.digit (length s.first) (digit_count table)
  fits is = edit_fits e.row e.place e.digit (length s.first) (digit_count table) (taken is)

pub returns-in_err-facts : goal.returns-in_err-facts
returns-in_err-facts c =
    let a = c.args in
    let e : Change = record { row = a.row; place = a.place; digit = a.digit } in
    let s = state a.first.now a.second.now a.sum.now in
    let is = table_refused a.table.now e s _ _ _ c.in_err-facts.ensures in
    record { outcome = exit_states (λ f. f) _ _ c.from_residual.ensures.1 ∙ is; buffers = state_lent a.table.now e s _ _ _ is }

pub returns-in-Err : goal.returns-in-Err
returns-in-Err c =
    let a = c.args in
    let e : Change = record { row = a.row; place = a.place; digit = a.digit } in
    let s = state a.first.now a.second.now a.sum.now in
    let known = found_facts a.table.now _ c.in_ok-facts.ensures in
    let is = fault_found rows _ _ c.by_rows.result (rows_asked a.table.now e s _ known c.in-Err.ensures) (ap refused_by c.by_rows.ensures) ∙ rows_stage a.table.now e s known.passes in
    record { outcome = is; buffers = state_lent a.table.now e s _ _ _ is }

pub returns-in-Err-edit_check : goal.returns-in-Err-edit_check
returns-in-Err-edit_check c =
    let a = c.args in
    let e : Change = record { row = a.row; place = a.place; digit = a.digit } in
    let s = state a.first.now a.second.now a.sum.now in
    let known = found_facts a.table.now _ c.in_ok-facts.ensures in
    let is = fault_found editor _ _ c.by_editor.result (edit_asked a.table.now e s _ known c.in-Err-edit_check.ensures) (ap refused_by c.by_editor.ensures)
    ∙ edit_stage a.table.now e s known.passes (fitting a.table.now e s _ known c.in_default.ensures) in
    record { outcome = is; buffers = state_lent a.table.now e s _ _ _ is }

pub overflow_cast-change : goal.overflow_cast-change
overflow_cast-change c =
    let a = c.args in
    let e : Change = record { row = a.row; place = a.place; digit = a.digit } in
    let s = state a.first.now a.second.now a.sum.now in
    let known = found_facts a.table.now _ c.in_ok-facts.ensures in
    let size = ready_passed a.table.now known.passes in
    omega (arith, (fits a.table.now e s _ known c.in_default-edit_check.ensures).index, size.alphabet_count.1, size.alphabet_lies.counts)

pub edit_rows-requires : goal.edit_rows-requires
edit_rows-requires c =
    let a = c.args in
    let e : Change = record { row = a.row; place = a.place; digit = a.digit } in
    let s = state a.first.now a.second.now a.sum.now in
    let known = found_facts a.table.now _ c.in_ok-facts.ensures in
    let fit = rows_fit a.first.now a.second.now (length a.sum.now) (digit_count a.table.now) (table_facts a.table.now).depth (fitting a.table.now e s _ known c.in_default.ensures) in
    record { table = known.passes; rows = fit; edit = fits a.table.now e s _ known c.in_default-edit_check.ensures; depth = known.depth }

pub returns : goal.returns
returns c =
    let a = c.args in
    let e : Change = record { row = a.row; place = a.place; digit = a.digit } in
    let s = state a.first.now a.second.now a.sum.now in
    let known = found_facts a.table.now _ c.in_ok-facts.ensures in
    let is = edit_passed a.table.now e s known.passes (fitting a.table.now e s _ known c.in_default.ensures) (taken a.table.now e s _ known c.in_default-edit_check.ensures) in
    record { outcome = c.edit_rows.ensures.outcome ∙ is; buffers = c.edit_rows.ensures.buffers ∙ state_by a.table.now e s is }
