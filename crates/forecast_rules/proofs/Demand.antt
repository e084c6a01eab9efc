-- Demand 1 for the forecast, rules 1 to 13 and 20.
use mathlib.Core.Path.{◌≡◌}
use mathlib.Core.List.{List}
use Prim.Native.Nat.{ℕ}
use native.Mathlib.Omega.{arith}
use Rattle.faults.specs.Outcome.{Group, refused, author, rows}
use Rattle.calls.specs.Answers.{Answers}
use Rattle.calls.proofs.Numbers.{fault_number}
use Rattle.calls.proofs.Answers.{told_end, told_unless, told_answers}
use Rattle.reader_rules.proofs.Broken.{table_decided}
use Rattle.row_rules.proofs.Broken.{digits_decided}
use Rattle.forecast_rules.specs.Broken.{forecast_stages}
use Rattle.forecast_rules.specs.Forecast.{forecast_facts, forecast_outcome}

module _ (table : List ℕ) (n : ℕ) where
  -- Demand 1. For every table, as a list of bytes, and every number of digits, the call refuses with whose, N and P exactly when rule N is
  -- broken at P, at no earlier place, and no rule before N in the order 1 to 13, 20 is broken; else it gives the facts.
  pub demand_1 : Answers (forecast_stages table n) (forecast_facts table n) (forecast_outcome table n)
  unfolding forecast_outcome
  demand_1 =
      told_answers (forecast_stages table n) (forecast_facts table n) _
      (told_unless author _ _ (forecast_facts table n) _ _ (table_decided table)
      (λ _. told_unless rows _ _ (forecast_facts table n) _ _ (digits_decided n) (λ _. told_end (forecast_facts table n))))

  -- it judges no pair's digit: 14 is the check's alone
  pub never_14 : (g : Group) (p : ℕ) → forecast_outcome table n ≡ refused g 14 p → ⊥
  never_14 g p e = omega (arith, fault_number (λ k. ¬ (k ≡ 14)) (forecast_stages table n) (omega arith) g 14 p ((demand_1.first g 14 p (omega arith)).0 e))
