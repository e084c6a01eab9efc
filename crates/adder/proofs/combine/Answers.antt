-- The table's fault by the reader is passed on, then the rows' by rules 20 to 23, then what is left; else the result is written.
use mathlib.Core.Path.{◌≡◌, sym, ap, ◌∙◌}
use mathlib.Core.List.{List}
use Prim.Native.Nat.{ℕ, ◌+◌}
use native.Mathlib.Omega.{arith}
use lib.ListN.{length}
use Rattle.std.proofs.Common.{Result, Ok}
use Rattle.faults.specs.declared.Refusal.{Refusal}
use Rattle.faults.specs.Outcome.{rows}
use Rattle.faults.specs.Stated.{refused_by}
use Rattle.faults.specs.Passed.{passed}
use Rattle.faults.proofs.Answer.{exit_states, fault_found}
use Rattle.faults.proofs.Passed.{ok_kept}
use Rattle.row_rules.proofs.Fit.{rows_fit}
use Rattle.row_rules.specs.Check.{row_check}
use Rattle.row_rules.specs.Rows.{RowsFit}
use Rattle.reader_rules.proofs.Answer.{Told, found_facts}
use Rattle.reader_rules.specs.TableFacts.{table_facts}
use Rattle.reader_rules.specs.declared.Table.{Table}
use Rattle.adder_rules.specs.Sum.{digit_count}
use Rattle.adder_rules.proofs.Rows.{few_places}
use Rattle.adder_rules.proofs.Sum.{table_refused, rows_stage, rows_passed, buffer_lent, buffer_by}
use Rattle.adder.proofs.combine.Goals as goal

-- rules 20 to 23 as they were asked, with the alphabet's size and the depth
module _ (table first second : List ℕ) (room : ℕ) (t : Table) (told : Told table t) where
  abbrev Asked : ℕ → ℕ → Refusal
  Asked size depth = row_check first second room size depth

  asked : {answer : Result Unit Refusal} → answer ≡ passed (Asked t.alphabet.count t.depth) → answer ≡ passed (Asked (digit_count table) (table_facts table).depth)
  asked is = is ∙ (λ i. passed (Asked (told.size i) (told.depth i)))

  nothing : {u : Unit} → Ok u ≡ passed (Asked t.alphabet.count t.depth) → (Asked (digit_count table) (table_facts table).depth).number ≡ 0
  nothing is = ok_kept _ (sym (asked is))

  fitting : {u : Unit} → Ok u ≡ passed (Asked t.alphabet.count t.depth) → RowsFit first second room (digit_count table) (table_facts table).depth
  fitting is = rows_fit first second room (digit_count table) (table_facts table).depth (nothing is)

pub returns-in_err-facts : goal.returns-in_err-facts
returns-in_err-facts c =
    let a = c.args in
    let is = table_refused a.operation a.table.now a.first.now a.second.now (length a.out.now) _ _ _ c.in_err-facts.ensures in
    record { outcome = exit_states (λ f. f) _ _ c.from_residual.ensures.1 ∙ is; out = buffer_lent a.operation a.table.now a.first.now a.second.now a.out.now _ _ _ is }

pub returns-in-Err : goal.returns-in-Err
returns-in-Err c =
    let a = c.args in
    let known = found_facts a.table.now _ c.in_ok-facts.ensures in
    let is = fault_found rows _ _ c.by_rows.result (asked a.table.now a.first.now a.second.now (length a.out.now) _ known c.in-Err.ensures) (ap refused_by c.by_rows.ensures)
    ∙ rows_stage a.operation a.table.now a.first.now a.second.now (length a.out.now) known.passes in
    record { outcome = is; out = buffer_lent a.operation a.table.now a.first.now a.second.now a.out.now _ _ _ is }

pub overflow_add-first : goal.overflow_add-first
overflow_add-first c =
    let a = c.args in
    let known = found_facts a.table.now _ c.in_ok-facts.ensures in
    omega (arith, known.depth, few_places a.table.now a.first.now a.second.now (length a.out.now) known.passes (fitting a.table.now a.first.now a.second.now (length a.out.now) _ known c.in_default.ensures))

pub combine_rows-requires : goal.combine_rows-requires
combine_rows-requires c =
    let a = c.args in
    let known = found_facts a.table.now _ c.in_ok-facts.ensures in
    record { table = known.passes; rows = fitting a.table.now a.first.now a.second.now (length a.out.now) _ known c.in_default.ensures; places = λ i. length a.first.now + known.depth i }

pub returns : goal.returns
returns c =
    let a = c.args in
    let known = found_facts a.table.now _ c.in_ok-facts.ensures in
    let is = rows_passed a.operation a.table.now a.first.now a.second.now (length a.out.now) known.passes (nothing a.table.now a.first.now a.second.now (length a.out.now) _ known c.in_default.ensures) in
    record { outcome = c.combine_rows.ensures.outcome ∙ is; out = c.combine_rows.ensures.out ∙ buffer_by a.operation a.table.now a.first.now a.second.now a.out.now is }
