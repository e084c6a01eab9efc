-- The digits are found in a local array, and written where none fails.
use mathlib.Core.Path.{◌≡◌, sym, ap, ◌∙◌}
use mathlib.Core.List.{List, replicate}
use Prim.Native.Nat.{ℕ, ◌+◌, ◌≤◌}
use native.Mathlib.Omega.{arith}
use lib.ListN.{get_or, length, take, length-replicate}
use lib.Seq.{length-take-le}
use Rattle.lists.specs.Scan.{first_failing}
use Rattle.lists.specs.Overwrite.{overwrite}
use Rattle.faults.specs.Outcome.{author}
use Rattle.faults.proofs.Exit.{exit_lent, exit_written}
use Rattle.ring.specs.declared.Operation.{Operation}
use Rattle.numeration.specs.Code.{Inputs}
use Rattle.digit_rules.specs.Digits.{operation_check}
use Rattle.reader_rules.specs.Table.{alphabet_part, input_part, input_count}
use Rattle.reader_rules.specs.TableFacts.{table_facts}
use Rattle.reader_rules.specs.Check.{table_check}
use Rattle.row_rules.specs.Rows.{RowsFit}
use Rattle.place_rules.specs.Helpers.{part_row}
use Rattle.adder_rules.specs.Sum.{place_count, digit_count}
use Rattle.adder_rules.specs.Input.{input_of, input_row}
use Rattle.adder_rules.specs.Add.{row_allowed, row_part, digits_outcome, result_row}
use Rattle.adder_rules.proofs.Sum.{digits_refused, digits_given, digits_found, digits_room}
use Rattle.adder_rules.proofs.Rows.{row_held, few_places}
use Rattle.adder.proofs.write_digits.Goals as goal

-- the row of input indexes, and the array that the digits are found in
module _ (op : Operation) (table first second : List ℕ) (room places : ℕ) (passes : (table_check table).number ≡ 0) (asked : (operation_check op (alphabet_part table) (input_part table)).number ≡ 0)
    (fit : RowsFit first second room (digit_count table) (table_facts table).depth) (all : places ≡ place_count table first) (row : List ℕ) (is : row ≡ part_row (input_of op table first second) 0 (length first)) where
  held : Inputs (input_count table) row × ((k : ℕ) → get_or row k 0 ≡ get_or (input_row op table first second) k 0)
  held = row_held op table first second room passes asked fit row is

  few : places ≤ 264
  few = omega (arith, all, few_places table first second room passes fit)

  long : (found : ℕ) (array : List ℕ) → found ≡ first_failing (λ k. row_allowed table row (0 + k)) 0 places → array ≡ overwrite (replicate 264 0) 0 (row_part table row 0 found) → length array ≡ 264
  long found array count digits =
      ap length digits ∙ digits_room op table first second row held.1 places all found count (replicate 264 0) (omega (arith, length-replicate {A = ℕ} 264 0, few)) ∙ length-replicate {A = ℕ} 264 0

pub inputs_of-row-requires : goal.inputs_of-row-requires
inputs_of-row-requires c =
    let fit = c.requires.rows in
    record { table = c.requires.table; part = (omega arith, fit.short, fit.first_indexes, λ k h. fit.second_indexes k (omega (arith, fit.same_length))) }

pub digits_of-found-requires : goal.digits_of-found-requires
digits_of-found-requires c =
    let pre = c.requires in
    let places = few _ _ _ _ _ _ pre.table pre.asked pre.rows pre.places _ c.inputs_of-row.ensures in
    record { table = pre.table; inputs = (held _ _ _ _ _ _ pre.table pre.asked pre.rows pre.places _ c.inputs_of-row.ensures).0; room = (omega (arith, places), omega (arith, places)) }

pub returns-then-found-places : goal.returns-then-found-places
returns-then-found-places c =
    let a = c.args in
    let pre = c.requires in
    let d = c.digits_of-found in
    let row = held _ _ _ _ _ _ pre.table pre.asked pre.rows pre.places _ c.inputs_of-row.ensures in
    let is = digits_refused a.operation a.table.now a.first.now a.second.now _ row.1 a.places pre.places d.result.count d.ensures.count c.if-found-places.true in
    record { outcome = is; out = exit_lent (digits_outcome a.operation a.table.now a.first.now a.second.now) author 27 d.result.count a.out.now (overwrite a.out.now 0 (result_row a.operation a.table.now a.first.now a.second.now)) is }

pub returns : goal.returns
returns c =
    let a = c.args in
    let pre = c.requires in
    let d = c.digits_of-found in
    let row = held _ _ _ _ _ _ pre.table pre.asked pre.rows pre.places _ c.inputs_of-row.ensures in
    let none = c.if-found-places.false in
    let is = digits_given a.operation a.table.now a.first.now a.second.now _ row.1 a.places pre.places d.result.count d.ensures.count d.result.reach d.ensures.reach none in
    let bytes = ap (take a.places) d.ensures.digits ∙ digits_found a.operation a.table.now a.first.now a.second.now _ row.1 a.places pre.places d.result.count d.ensures.count (replicate 264 0) none in
    let written = overwrite a.out.now 0 (result_row a.operation a.table.now a.first.now a.second.now) in
    record { outcome = is; out = c.put.ensures.written ∙ ap (overwrite a.out.now 0) bytes ∙ exit_written (digits_outcome a.operation a.table.now a.first.now a.second.now) (record { places = a.places; reach = d.result.reach }) a.out.now written is }

pub slice_bounds-digits-end : goal.slice_bounds-digits-end
slice_bounds-digits-end c =
    let pre = c.requires in
    let places = few _ _ _ _ _ _ pre.table pre.asked pre.rows pre.places _ c.inputs_of-row.ensures in
    omega (arith, places, long _ _ _ _ _ _ pre.table pre.asked pre.rows pre.places _ c.inputs_of-row.ensures _ _ c.digits_of-found.ensures.count c.digits_of-found.ensures.digits)

pub slice_bounds-put-end : goal.slice_bounds-put-end
slice_bounds-put-end c =
    let pre = c.requires in
    let places = few _ _ _ _ _ _ pre.table pre.asked pre.rows pre.places _ c.inputs_of-row.ensures in
    sym (length-take-le c.args.places c.digits_of-found.new.out (omega (arith, places, long _ _ _ _ _ _ pre.table pre.asked pre.rows pre.places _ c.inputs_of-row.ensures _ _ c.digits_of-found.ensures.count c.digits_of-found.ensures.digits)))
