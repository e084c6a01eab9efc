-- Pinned by demand_1 and facts_of (proofs/Demand.antt): a reader may skip this file. The forecast of a table file and a number of digits.
use Rattle.std.specs.Prelude.{List, ℕ, ◌+◌}
use Rattle.faults.specs.Outcome.{Outcome, facts, author, rows}
use Rattle.faults.specs.Unless.{unless}
use Rattle.numeration.specs.PairCount.{pair_count}
use Rattle.reader_rules.specs.Table.{leaves_in}
use Rattle.reader_rules.specs.TableFacts.{table_facts}
use Rattle.reader_rules.specs.Check.{table_check}
use Rattle.row_rules.specs.Check.{digits_check}
use Rattle.forecast_rules.specs.declared.ForecastFacts.{ForecastFacts}

-- the number of fitting leaf pairs, and n + h
unfoldable pub forecast_facts : List ℕ → ℕ → ForecastFacts
forecast_facts table n = record { pairs = pair_count (leaves_in table); bytes = n + (table_facts table).depth }

-- for every table and number: refused by 1 to 13, by 20, or the facts
unfoldable pub forecast_outcome : List ℕ → ℕ → Outcome ForecastFacts
forecast_outcome table n = unless author (table_check table) (unless rows (digits_check n) (facts (forecast_facts table n)))
