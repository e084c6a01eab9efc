-- What other calls say of the same table: a check that accepts it reports the same number of pairs, and addition writes the same bytes.
use mathlib.Core.Path.{◌≡◌, sym, ap, ◌∙◌}
use mathlib.Core.List.{List}
use Prim.Native.Nat.{ℕ, ◌+◌, ◌≤◌}
use lib.ListN.{length}
use Rattle.faults.specs.declared.Refusal.{Refusal}
use Rattle.faults.specs.Outcome.{facts, author, rows}
use Rattle.faults.proofs.Unless.{unless_none}
use Rattle.calls.proofs.Answers.{unless_given}
use Rattle.ring.specs.declared.Operation.{Operation}
use Rattle.reader_rules.specs.TableFacts.{table_facts}
use Rattle.reader_rules.specs.Check.{table_check}
use Rattle.row_rules.specs.Check.{digits_check, row_check}
use Rattle.row_rules.proofs.Broken.{digits_pass}
use Rattle.row_rules.proofs.Fit.{rows_fit}
use Rattle.table_rules.specs.declared.Facts.{Facts}
use Rattle.table_rules.specs.Check.{check_facts, check_outcome}
use Rattle.table_rules.proofs.Demand as check
use Rattle.adder_rules.specs.declared.AddedFacts.{AddedFacts}
use Rattle.adder_rules.specs.Sum.{digit_count}
use Rattle.adder_rules.specs.Add.{result_outcome}
use Rattle.adder_rules.proofs.Demand as addition
use Rattle.forecast_rules.specs.declared.ForecastFacts.{ForecastFacts}
use Rattle.forecast_rules.specs.Forecast.{forecast_facts, forecast_outcome}
use Rattle.forecast_rules.proofs.Demand.{demand_1}

module _ (table : List ℕ) where
  -- a table that passes 1 to 13, and a number that passes 20
  given : (n : ℕ) → (table_check table).number ≡ 0 → n ≤ 256 → forecast_outcome table n ≡ facts (forecast_facts table n)
  unfolding forecast_outcome
  given n read short =
      unless_none author (table_check table) _ read ∙ unless_none rows (digits_check n) _ (ap (λ (r : Refusal). r.number) (digits_pass n short))

  -- On a table that the check accepts the forecast is the check's: the same number of pairs, and n + h by its depth.
  pub check_agrees : (g : Facts) → check_outcome table ≡ facts g → (n : ℕ) → n ≤ 256 → forecast_outcome table n ≡ facts (record { pairs = g.pairs; bytes = n + g.depth })
  unfolding check_outcome check_facts forecast_facts
  check_agrees g e n short =
      given n (unless_given author (table_check table) _ g e).0 short
      ∙ ap (λ (f : Facts). facts (record { pairs = f.pairs; bytes = n + f.depth })) (sym ((check.demand_1 table).only_facts g e))

  pub same_pairs : (g : Facts) (n : ℕ) (f : ForecastFacts) → check_outcome table ≡ facts g → forecast_outcome table n ≡ facts f → f.pairs ≡ g.pairs
  unfolding check_facts forecast_facts
  same_pairs g n f e given =
      ap (λ (x : ForecastFacts). x.pairs) ((demand_1 table n).only_facts f given) ∙ ap (λ (x : Facts). x.pairs) (sym ((check.demand_1 table).only_facts g e))

  -- Where addition, or subtraction, isn't refused, the forecast of so many digits gives the bytes that it writes.
  pub bytes_written : (op : Operation) (first second : List ℕ) (room : ℕ) (g : AddedFacts) → result_outcome op table first second room ≡ facts g
      → (f : ForecastFacts) × (forecast_outcome table (length first) ≡ facts f) × (f.bytes ≡ g.places)
  unfolding result_outcome forecast_facts
  bytes_written op first second room g e =
      let a = unless_given author (table_check table) _ g e in
      let b = unless_given rows (row_check first second room (digit_count table) (table_facts table).depth) _ g a.1 in
      let fit = rows_fit first second room (digit_count table) (table_facts table).depth b.0 in (
        forecast_facts table (length first),
        given (length first) a.0 fit.short,
        ap (λ (x : AddedFacts). x.places) (sym ((addition.demand_1 op table first second room).only_facts g e)),
      )
