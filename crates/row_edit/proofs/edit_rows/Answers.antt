-- The digits are found from the part of the rows that they depend on; then the digit is stored and the part of the sum rewritten.
use mathlib.Core.Path.{◌≡◌, sym, ap, ◌∙◌}
use mathlib.Core.List.{List, replicate}
use Prim.Native.Nat.{ℕ, ◌+◌, ◌≤◌, ◌<◌}
use native.Mathlib.Omega.{arith}
use lib.ListN.{length, get_or, take, length-replicate}
use lib.Seq.{length-take-le}
use Rattle.lists.specs.Scan.{first_failing}
use Rattle.lists.specs.Overwrite.{overwrite}
use Rattle.faults.specs.Outcome.{author}
use Rattle.reader_rules.specs.TableFacts.{table_facts}
use Rattle.reader_rules.specs.Check.{table_check}
use Rattle.row_rules.specs.declared.Change.{Change}
use Rattle.row_rules.specs.Fit.{EditFits}
use Rattle.row_rules.specs.Rows.{RowsFit}
use Rattle.adder_rules.specs.Sum.{digit_count}
use Rattle.adder_rules.specs.Add.{row_allowed, row_part}
use Rattle.edit_rules.specs.State.{State, state, new_inputs, renewed_count}
use Rattle.edit_rules.proofs.Renewed.{renew_given, renew_lent, renew_written, lent_long, sum_renewed, count_is, shallow, part_fits, bytes_asked, row_inputs, row_same, outside_found, none_outside, reached, digits_found, digits_room}
use Rattle.row_edit.proofs.edit_rows.Goals as goal

few : (file : List ℕ) (e : Change) (s : State) → (table_check file).number ≡ 0 → RowsFit s.first s.second (length s.sum) (digit_count file) (table_facts file).depth → EditFits e.row e.place e.digit (length s.first) (digit_count file)
    → (d : ℕ) → d ≡ (table_facts file).depth → d ≤ 8
few file e s passes fit asked d deep = omega (arith, deep, shallow file e s passes fit asked)

-- the array that the digits are found in
module _ (file : List ℕ) (e : Change) (s : State) (row : List ℕ) (same : (k : ℕ) → e.place ≤ k + (table_facts file).depth → k < e.place + renewed_count file → get_or row k 0 ≡ get_or (new_inputs file e s) k 0)
    (d : ℕ) (deep : d ≡ (table_facts file).depth) (found : ℕ) (count : found ≡ first_failing (λ k. row_allowed file row (e.place + k)) 0 (d + 1))
    (array : List ℕ) (digits : array ≡ overwrite (replicate 9 0) 0 (row_part file row e.place found)) where
  array_long : d ≤ 8 → length array ≡ 9
  array_long low =
      ap length digits ∙ digits_room file e s row same d deep found count (replicate 9 0) (omega (arith, length-replicate {A = ℕ} 9 0, low)) ∙ length-replicate {A = ℕ} 9 0

  array_taken : d < found → take (d + 1) array ≡ row_part file (new_inputs file e s) e.place (renewed_count file)
  array_taken h = ap (take (d + 1)) digits ∙ digits_found file e s row same d deep found count (replicate 9 0) h

pub part_end-end-requires : goal.part_end-end-requires
part_end-end-requires c =
    let a = c.args in
    let pre = c.requires in
    (pre.edit.in_row, pre.rows.short, few a.table.now a.change (state a.first.now a.second.now a.sum.now) pre.table pre.rows pre.edit _ pre.depth)

pub inputs_of-row-requires : goal.inputs_of-row-requires
inputs_of-row-requires c =
    let a = c.args in
    let pre = c.requires in
    let end = c.part_end-end.ensures in
    record { table = pre.table; part = bytes_asked a.table.now a.change (state a.first.now a.second.now a.sum.now) pre.table pre.rows pre.edit _ _ _ pre.depth c.saturating_sub-from.ensures end.above end.within end.reach }

pub digits_of-found-requires : goal.digits_of-found-requires
digits_of-found-requires c =
    let a = c.args in
    let pre = c.requires in
    let lent = state a.first.now a.second.now a.sum.now in
    let end = c.part_end-end.ensures in
    let low = few a.table.now a.change lent pre.table pre.rows pre.edit _ pre.depth in
    let inputs = row_inputs a.table.now a.change lent pre.table pre.rows pre.edit _ _ _ pre.depth c.saturating_sub-from.ensures end.above end.within end.reach _ c.inputs_of-row.ensures in
    record { table = pre.table; inputs = inputs; room = (omega (arith, low, pre.edit.in_row, pre.rows.short), omega (arith, low)) }

pub returns-then-found-depth : goal.returns-then-found-depth
returns-then-found-depth c =
    let a = c.args in
    let pre = c.requires in
    let lent = state a.first.now a.second.now a.sum.now in
    let end = c.part_end-end.ensures in
    let same = row_same a.table.now a.change lent pre.table pre.rows pre.edit _ _ _ pre.depth c.saturating_sub-from.ensures end.above end.within end.reach _ c.inputs_of-row.ensures in
    let is = outside_found a.table.now a.change lent _ same _ pre.depth _ c.digits_of-found.ensures.count c.if-found-depth.true in
    record { outcome = is; buffers = renew_lent a.table.now a.change lent author 27 (a.change.place + c.digits_of-found.result.count) is }

pub overflow_add-place : goal.overflow_add-place
overflow_add-place c =
    let a = c.args in
    let pre = c.requires in
    omega (arith, few a.table.now a.change (state a.first.now a.second.now a.sum.now) pre.table pre.rows pre.edit _ pre.depth, pre.edit.in_row, pre.rows.short)

pub overflow_add-place-2 : goal.overflow_add-place-2
overflow_add-place-2 c =
    let a = c.args in
    let pre = c.requires in
    omega (arith, few a.table.now a.change (state a.first.now a.second.now a.sum.now) pre.table pre.rows pre.edit _ pre.depth, pre.edit.in_row, pre.rows.short)

pub slice_bounds-renew-end : goal.slice_bounds-renew-end
slice_bounds-renew-end c =
    let a = c.args in
    let pre = c.requires in
    omega (arith, pre.depth, part_fits a.table.now a.change (state a.first.now a.second.now a.sum.now) pre.table pre.rows pre.edit)

pub slice_bounds-digits-end : goal.slice_bounds-digits-end
slice_bounds-digits-end c =
    let a = c.args in
    let pre = c.requires in
    let lent = state a.first.now a.second.now a.sum.now in
    let end = c.part_end-end.ensures in
    let low = few a.table.now a.change lent pre.table pre.rows pre.edit _ pre.depth in
    let same = row_same a.table.now a.change lent pre.table pre.rows pre.edit _ _ _ pre.depth c.saturating_sub-from.ensures end.above end.within end.reach _ c.inputs_of-row.ensures in
    omega (arith, array_long a.table.now a.change lent _ same _ pre.depth _ c.digits_of-found.ensures.count _ c.digits_of-found.ensures.digits low, low)

pub slice_bounds-renew-end-2 : goal.slice_bounds-renew-end-2
slice_bounds-renew-end-2 c =
    let a = c.args in
    let pre = c.requires in
    let lent = state a.first.now a.second.now a.sum.now in
    let end = c.part_end-end.ensures in
    let low = few a.table.now a.change lent pre.table pre.rows pre.edit _ pre.depth in
    let same = row_same a.table.now a.change lent pre.table pre.rows pre.edit _ _ _ pre.depth c.saturating_sub-from.ensures end.above end.within end.reach _ c.inputs_of-row.ensures in
    sym (length-take-le (a.depth + 1) c.digits_of-found.new.out (omega (arith, array_long a.table.now a.change lent _ same _ pre.depth _ c.digits_of-found.ensures.count _ c.digits_of-found.ensures.digits low, low)))

pub renew-count-requires : goal.renew-count-requires
renew-count-requires c =
    let a = c.args in
    let pre = c.requires in
    let lent = state a.first.now a.second.now a.sum.now in
    let end = c.part_end-end.ensures in
    let low = few a.table.now a.change lent pre.table pre.rows pre.edit _ pre.depth in
    let same = row_same a.table.now a.change lent pre.table pre.rows pre.edit _ _ _ pre.depth c.saturating_sub-from.ensures end.above end.within end.reach _ c.inputs_of-row.ensures in
    let long = array_long a.table.now a.change lent _ same _ pre.depth _ c.digits_of-found.ensures.count _ c.digits_of-found.ensures.digits low in
    omega (
      arith,
      pre.depth,
      length-take-le (a.depth + 1) c.digits_of-found.new.out (omega (arith, long, low)),
      lent_long a.table.now a.change lent (part_fits a.table.now a.change lent pre.table pre.rows pre.edit) a.depth pre.depth,
    )

pub returns : goal.returns
returns c =
    let a = c.args in
    let pre = c.requires in
    let lent = state a.first.now a.second.now a.sum.now in
    let end = c.part_end-end.ensures in
    let found = c.digits_of-found.ensures in
    let inside = c.if-found-depth.false in
    let store = c.store.ensures in
    let same = row_same a.table.now a.change lent pre.table pre.rows pre.edit _ _ _ pre.depth c.saturating_sub-from.ensures end.above end.within end.reach _ c.inputs_of-row.ensures in
    let fits = part_fits a.table.now a.change lent pre.table pre.rows pre.edit in
    let digits = array_taken a.table.now a.change lent _ same _ pre.depth _ found.count _ found.digits inside in
    let none = none_outside a.table.now a.change lent _ same _ pre.depth _ found.count inside in
    let count = c.renew-count.ensures.count ∙ count_is a.table.now a.change lent fits a.depth pre.depth _ digits in
    let reach = found.reach ∙ reached a.table.now a.change lent _ same _ pre.depth _ found.count inside in
    let is = renew_given a.table.now a.change lent _ (λ i. record { count = count i; reach = reach i }) none in
    let sum = sum_renewed a.table.now a.change lent fits a.depth pre.depth c.renew-count.new.part (c.renew-count.ensures.part ∙ digits) in
    record { outcome = is; buffers = (λ i. state (store.first i) (store.second i) (sum i)) ∙ renew_written a.table.now a.change lent _ is }
