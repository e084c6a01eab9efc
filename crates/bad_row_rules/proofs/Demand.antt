-- Demand 1 for the call that shows a bad row, rules 1 to 13.
use mathlib.Core.Path.{◌≡◌, sym, ap, ◌∙◌}
use mathlib.Core.List.{List}
use Prim.Native.Nat.{ℕ, ◌≤◌}
use native.Mathlib.Omega.{arith}
use Rattle.faults.specs.Outcome.{Group, facts, refused, author}
use Rattle.calls.specs.Answers.{Answers}
use Rattle.calls.proofs.Answers.{stage_answers}
use Rattle.calls.proofs.Numbers.{fault_number}
use Rattle.reader_rules.specs.Broken.{table_rules}
use Rattle.reader_rules.specs.Check.{table_check}
use Rattle.reader_rules.proofs.Broken.{table_decided}
use Rattle.table_rules.specs.Check.{bad_pair_of}
use Rattle.bad_row_rules.specs.Shows.{Shows, nothing}
use Rattle.bad_row_rules.specs.Broken.{bad_row_stages}
use Rattle.bad_row_rules.specs.BadRow.{string_of, shows, bad_row_outcome, written, bad_row_in}
use Rattle.bad_row_rules.proofs.Shows.{lent_kept, lent_written}

module _ (table : List ℕ) where
  -- Demand 1. For every list of bytes the call refuses, in the author's name, with N at P exactly when rule N of 1 to 13 is broken at P, at no
  -- earlier place, and no rule before N is broken; else it tells what there is to show.
  pub demand_1 : Answers (bad_row_stages table) (shows table) (bad_row_outcome table)
  unfolding bad_row_outcome
  demand_1 = stage_answers author (table_rules table) (table_check table) (shows table) (table_decided table)

  -- "14 isn't a fault here"
  pub never_14 : (g : Group) (p : ℕ) → bad_row_outcome table ≡ refused g 14 p → ⊥
  never_14 g p e =
      omega (arith, fault_number (λ n. n ≤ 13) (bad_row_stages table) (omega arith) g 14 p ((demand_1.first g 14 p (omega arith)).0 e))

  -- "with Nothing or a fault all do": the lent bytes keep their contents
  pub refused_lent : (lent : List ℕ) (g : Group) (n p : ℕ) → bad_row_outcome table ≡ refused g n p → bad_row_in table lent ≡ lent
  refused_lent lent g n p e = sym (lent_kept table lent g n p e)

  pub nothing_lent : (lent : List ℕ) → bad_row_outcome table ≡ facts nothing → bad_row_in table lent ≡ lent
  unfolding written
  nothing_lent lent e =
      let is : nothing ≡ shows table = demand_1.only_facts nothing e in
      sym (ap (λ (x : Shows). written x (string_of table (bad_pair_of table)) lent) is ∙ lent_written table lent (e ∙ ap facts is))
