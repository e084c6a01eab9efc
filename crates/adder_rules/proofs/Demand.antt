-- Demand 1 for addition and subtraction: 1 to 13, 20 to 23, in subtraction 42, and 27.
use mathlib.Core.Path.{◌≡◌, sym, subst}
use mathlib.Core.List.{List}
use Prim.Native.Nat.{ℕ, ◌+◌, ◌-◌, ◌<◌}
use native.Mathlib.Omega.{arith}
use mathlib.Core.Bool.{false}
use lib.ListN.{length}
use Rattle.lists.proofs.Test.{clash, not_passed}
use Rattle.faults.specs.Outcome.{Group, refused, author, rows}
use Rattle.faults.specs.Rule.{rule}
use Rattle.faults.proofs.Rule.{Decided, judge_decided}
use Rattle.calls.specs.Answers.{Answers}
use Rattle.calls.proofs.Answers.{told_end, told_unless, told_answers}
use Rattle.ring.specs.declared.Operation.{Operation}
use Rattle.digit_rules.proofs.Broken.{operation_decided}
use Rattle.reader_rules.specs.Table.{alphabet_part, input_part}
use Rattle.reader_rules.specs.TableFacts.{table_facts}
use Rattle.reader_rules.proofs.Broken.{table_decided}
use Rattle.row_rules.proofs.Broken.{rows_decided}
use Rattle.table_rules.proofs.Demand.{listed_test}
use Rattle.adder_rules.specs.declared.AddedFacts.{AddedFacts}
use Rattle.adder_rules.specs.Sum.{digit_count, place_count, row_digit, result_facts}
use Rattle.adder_rules.specs.Input.{input_row}
use Rattle.adder_rules.specs.Add.{row_allowed, output_check, digits_outcome, asked_outcome, result_outcome, result_in}
use Rattle.adder_rules.specs.Broken.{Broken27, output_rules, result_stages}
use Rattle.adder_rules.proofs.Sum.{buffer_lent}

-- 27 over the places from p on
pub digits_decided : (file row : List ℕ) (from count : ℕ) → Decided (output_rules file row from count) (output_check file row from count)
unfolding output_check
digits_decided file row from count =
    judge_decided (rule 27 (Broken27 file row from count)) (λ k. from + k) (λ k. row_allowed file row (from + k)) count (omega arith) (λ j k h l. omega arith) (λ p. (to p, from_test p))
  where
    to : (p : ℕ) → Broken27 file row from count p → (k : ℕ) × (k < count) × (p ≡ from + k) × (row_allowed file row (from + k) ≡ false)
    to p b =
        let at : p ≡ from + (p - from) = omega (arith, b.0) in
        (p - from, omega (arith, b.0, b.1), at, subst (λ (j : ℕ). row_allowed file row j ≡ false) at (not_passed _ (λ t. b.2 ((listed_test (alphabet_part file) (row_digit file row p)).0 t))))

    from_test : (p : ℕ) → (k : ℕ) × (k < count) × (p ≡ from + k) × (row_allowed file row (from + k) ≡ false) → Broken27 file row from count p
    from_test p w =
        (omega (arith, w.2), omega (arith, w.1, w.2), λ l. clash ((listed_test (alphabet_part file) (row_digit file row p)).1 l) (subst (λ (j : ℕ). row_allowed file row j ≡ false) (sym w.2) w.3))

-- Demand 1. For every list of bytes as table, rows and buffer the call refuses with whose, N and P exactly when rule N is broken at P,
-- at no earlier place, and no rule before N in the order 1 to 13, 20 to 23, in subtraction 42, 27 is broken; else it gives n + h and the reach.
pub demand_1 : (op : Operation) (file first second : List ℕ) (room : ℕ) → Answers (result_stages op file first second room) (result_facts op file first second) (result_outcome op file first second room)
unfolding result_outcome asked_outcome digits_outcome
demand_1 op file first second room =
    told_answers (result_stages op file first second room) given _
    (told_unless author _ _ given _ _ (table_decided file)
    (λ _. told_unless rows _ _ given _ _ (rows_decided first second room (digit_count file) (table_facts file).depth)
    (λ _. told_unless author _ _ given _ _ (operation_decided op (alphabet_part file) (input_part file))
    (λ _. told_unless author _ _ given _ _ (digits_decided file (input_row op file first second) 0 (place_count file first)) (λ _. told_end given)))))
  where
    given : AddedFacts
    given = result_facts op file first second

-- and then the buffer is as lent
pub refused_lent : (op : Operation) (file first second buffer : List ℕ) (g : Group) (n p : ℕ) → result_outcome op file first second (length buffer) ≡ refused g n p → result_in op file first second buffer ≡ buffer
refused_lent op file first second buffer g n p e = sym (buffer_lent op file first second buffer g n p (sym e))
