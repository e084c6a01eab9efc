-- What the facts of the forecast are, and their bounds.
use mathlib.Core.Path.{◌≡◌, sym, ap, subst, ◌∙◌}
use mathlib.Core.List.{List}
use Prim.Native.Nat.{ℕ, ◌+◌, ◌*◌, ◌<◌, ◌≤◌}
use native.Mathlib.Omega.{arith}
use Rattle.faults.specs.Outcome.{facts, author, rows}
use Rattle.faults.specs.Unless.{unless}
use Rattle.calls.proofs.Answers.{unless_given}
use Rattle.leaf_rules.specs.Leaf.{leaf_count, word_length}
use Rattle.numeration.specs.PairCount.{pair_count}
use Rattle.numeration.proofs.PairCount.{pairs_number, pairs_all_within, pairs_leaves, pairs_square}
use Rattle.reader_rules.specs.Table.{leaf_part, leaves_in, input_count}
use Rattle.reader_rules.specs.TableFacts.{table_facts, part_facts}
use Rattle.reader_rules.specs.Check.{table_check}
use Rattle.reader_rules.proofs.Ready.{ready_passed}
use Rattle.row_rules.specs.Check.{digits_check}
use Rattle.row_rules.proofs.Fit.{digits_fit}
use Rattle.forecast_rules.specs.declared.ForecastFacts.{ForecastFacts}
use Rattle.forecast_rules.specs.Forecast.{forecast_facts, forecast_outcome}
use Rattle.forecast_rules.specs.ForecastOf.{ForecastOf}
use Rattle.forecast_rules.proofs.Demand.{demand_1}

module _ (table : List ℕ) (n : ℕ) (f : ForecastFacts) (e : forecast_outcome table n ≡ facts f) where
  is_facts : f ≡ forecast_facts table n
  is_facts = (demand_1 table n).only_facts f e

  read : (table_check table).number ≡ 0
  unfolding forecast_outcome
  read = (unless_given author (table_check table) (unless rows (digits_check n) (facts (forecast_facts table n))) f e).0

  short : n ≤ 256
  unfolding forecast_outcome
  short =
      let rest = (unless_given author (table_check table) (unless rows (digits_check n) (facts (forecast_facts table n))) f e).1 in
      digits_fit n (unless_given rows (digits_check n) (facts (forecast_facts table n)) f rest).0

  -- Where the call gives facts, they are the number of fitting leaf pairs and n + h.
  pub facts_of : ForecastOf table n f
  unfolding forecast_facts table_facts part_facts
  facts_of =
      let r = ready_passed table read in
      let (k, h, deep) = r.deepest in
      subst (ForecastOf table n) (sym is_facts) (record {
        fitting_pairs = pairs_number (leaves_in table);
        deepest = (k, h, ap (λ (d : ℕ). n + d) deep);
        none_deeper = λ l there. omega (arith, r.none_deeper l there);
      })

  is_count : f.pairs ≡ pair_count (leaves_in table)
  unfolding forecast_facts
  is_count = ap (λ (g : ForecastFacts). g.pairs) is_facts

  -- There are at least as many pairs as leaves, and they fit into 32 bits: 4,000 leaves have 16,000,000 pairs at the most.
  pub least_pairs : leaf_count (leaf_part table) ≤ f.pairs
  least_pairs = let r = ready_passed table read in omega (arith, is_count, pairs_leaves (leaves_in table) (input_count table) r.code r.ordered_code.ordered)

  pub most_pairs : f.pairs ≤ 16000000
  most_pairs =
      let r = ready_passed table read in
      omega (arith, is_count, pairs_all_within (leaves_in table) 4000 r.leaf_count_within.1)

  -- n + h is 264 at the most
  pub most_bytes : f.bytes ≤ 264
  unfolding forecast_facts
  most_bytes = omega (arith, short, (ready_passed table read).depth_high, ap (λ (g : ForecastFacts). g.bytes) is_facts)

  -- A table of one-digit words has as many as the square of its leaves.
  pub square_pairs : ((k : ℕ) → k < leaf_count (leaf_part table) → word_length (leaf_part table) k ≡ 1) → f.pairs ≡ leaf_count (leaf_part table) * leaf_count (leaf_part table)
  square_pairs short = is_count ∙ pairs_square (leaves_in table) short
