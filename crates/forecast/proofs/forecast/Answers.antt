-- The table's fault by the reader is passed on; then rule 20; else the facts.
use mathlib.Core.Path.{sym, ap, ◌∙◌}
use Prim.Native.Nat.{◌+◌}
use native.Mathlib.Omega.{arith}
use Rattle.forecast_rules.specs.Forecast.{forecast_facts, forecast_outcome}
use Rattle.row_rules.specs.Check.{digits_check}
use Rattle.row_rules.proofs.Fit.{digits_fit}
use Rattle.reader_rules.specs.Check.{table_check}
use Rattle.reader_rules.proofs.Ready.{ready_passed}
use Rattle.faults.proofs.Answer.{fault_found, nothing_found}
use Rattle.faults.proofs.Passed.{ok_kept}
use Rattle.reader_rules.proofs.Answer.{found_facts, read_exit}
use Rattle.faults.specs.Stated.{refused_by}
use Rattle.faults.specs.Outcome.{facts, author, rows}
use Rattle.faults.proofs.Unless.{unless_none}
use Rattle.forecast.proofs.forecast.Goals as goal

pub returns-in_err-facts : goal.returns-in_err-facts
unfolding forecast_outcome
returns-in_err-facts c = read_exit (λ f. f) c.args.table.now _ _ _ c.from_residual.ensures.1 c.in_err-facts.ensures

pub returns-in-Err : goal.returns-in-Err
unfolding forecast_outcome
returns-in-Err c =
    let known = found_facts c.args.table.now _ c.in_ok-facts.ensures in
    fault_found rows (digits_check c.args.digits) _ _ c.in-Err.ensures (ap refused_by c.by_rows.ensures) ∙ sym (unless_none author (table_check c.args.table.now) _ known.passes)

pub fitting_pairs-requires : goal.fitting_pairs-requires
fitting_pairs-requires c = (found_facts c.args.table.now _ c.in_ok-facts.ensures).passes

pub facts_of-requires : goal.facts_of-requires
facts_of-requires c =
    let known = found_facts c.args.table.now _ c.in_ok-facts.ensures in
    let ready = ready_passed c.args.table.now known.passes in
    (digits_fit c.args.digits (ok_kept _ (sym c.in_default.ensures)), omega (arith, known.depth, ready.depth_low), omega (arith, known.depth, ready.depth_high))

pub returns : goal.returns
unfolding forecast_outcome forecast_facts
returns c =
    let known = found_facts c.args.table.now _ c.in_ok-facts.ensures in
    ap facts c.facts_of.ensures
    ∙ (λ i. facts (record { pairs = c.fitting_pairs.ensures i; bytes = c.args.digits + known.depth i }))
    ∙ nothing_found rows (digits_check c.args.digits) _ c.in_default.ensures
    ∙ sym (unless_none author (table_check c.args.table.now) _ known.passes)
