-- Demand 1 for the value call, rules 1 to 13, 20, 21 and 28; and where it gives an element, that is the value of the row.
use mathlib.Core.Path.{◌≡◌, sym, ap, subst, ◌∙◌}
use mathlib.Core.List.{List, [], ◌∷◌}
use Prim.Native.Nat.{ℕ, ◌≤◌}
use native.Mathlib.Omega.{arith}
use lib.IntN.{ℤ}
use Rattle.faults.specs.declared.Refusal.{Refusal}
use Rattle.faults.specs.Check.{◌then◌}
use Rattle.faults.specs.Outcome.{Group, facts, refused, author, rows}
use Rattle.faults.specs.Unless.{unless}
use Rattle.faults.proofs.Rule.{Decided, then_decided}
use Rattle.faults.proofs.Unless.{unless_then}
use Rattle.calls.specs.Answers.{Answers, stage}
use Rattle.calls.proofs.Numbers.{fault_number}
use Rattle.calls.proofs.Answers.{Told, told_end, told_unless, told_answers}
use Rattle.digit_rules.specs.BaseMatrix.{base_matrix}
use Rattle.digit_rules.specs.Record.{element_count}
use Rattle.reader_rules.specs.Table.{base_part, alphabet_part, value_of}
use Rattle.reader_rules.proofs.Broken.{table_decided}
use Rattle.row_rules.specs.Check.{one_row_check}
use Rattle.row_rules.proofs.Broken.{one_row_decided}
use Rattle.row_value_rules.specs.Total.{worth_check}
use Rattle.row_value_rules.proofs.Broken.{worth_decided, worth_outcome}
use Rattle.value_call_rules.specs.Value.{row_outcome, value_outcome}
use Rattle.value_call_rules.specs.Broken.{lender_rules, value_stages}

module _ (table row : List ℕ) where
  -- 20, 21 and 28 as one check
  lender_check : Refusal
  lender_check =
      one_row_check row (element_count (alphabet_part table)) then worth_check (base_matrix (base_part table)) (alphabet_part table) row

  whole : row_outcome table row ≡ unless rows lender_check (facts (value_of table row))
  unfolding row_outcome lender_check
  whole =
      ap (unless rows (one_row_check row (element_count (alphabet_part table)))) (worth_outcome (base_matrix (base_part table)) (alphabet_part table) row)
      ∙ unless_then rows (one_row_check row (element_count (alphabet_part table))) (worth_check (base_matrix (base_part table)) (alphabet_part table) row) (facts (value_of table row))

  lender_decided : Decided (lender_rules table row) lender_check
  unfolding lender_check
  lender_decided =
      then_decided _ _ _ _ (one_row_decided row (element_count (alphabet_part table))) (λ _. worth_decided (base_matrix (base_part table)) (alphabet_part table) row)

  -- Demand 1. For every table and row, as lists of bytes, the call refuses with whose, N and P exactly when rule N is broken at P, at
  -- no earlier place, and no rule before N in the order 1 to 13, 20, 21, 28 is broken; else it gives the value of the row.
  pub demand_1 : Answers (value_stages table row) (value_of table row) (value_outcome table row)
  unfolding value_outcome
  demand_1 =
      told_answers (value_stages table row) (value_of table row) _
      (told_unless author _ _ (value_of table row) _ _ (table_decided table)
      (λ _. subst (Told (stage rows (lender_rules table row) ∷ []) (value_of table row)) (sym whole)
      (told_unless rows _ _ (value_of table row) _ _ lender_decided (λ _. told_end (value_of table row)))))

  -- 42 of document 02 is subtraction's alone
  pub never_42 : (g : Group) (p : ℕ) → value_outcome table row ≡ refused g 42 p → ⊥
  never_42 g p e = omega (arith, fault_number (λ n. n ≤ 28) (value_stages table row) (omega arith) g 42 p ((demand_1.first g 42 p (omega arith)).0 e))

  -- Where the call gives an element, it is the sum of the row's digits, each times the base to the power of its place.
  pub element_is_value : (x : List ℤ) → value_outcome table row ≡ facts x → x ≡ value_of table row
  element_is_value x e = demand_1.only_facts x e
