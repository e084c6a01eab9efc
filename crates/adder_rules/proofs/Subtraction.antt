-- What holds of subtraction besides: 42 is its own, a symmetric alphabet never gets it, and what was taken away can be added back.
use mathlib.Core.Path.{◌≡◌, ap₂, ◌∙◌}
use mathlib.Core.List.{List, ◌++◌}
use mathlib.Core.Logic.{inl, inr}
use Prim.Native.Nat.{ℕ, ◌≤◌}
use native.Mathlib.Omega.{arith}
use lib.ListN.{length, take, replicate}
use Rattle.faults.specs.Outcome.{Group, facts, refused}
use Rattle.faults.specs.Rule.{AllKept}
use Rattle.faults.proofs.Numbers.{number_of}
use Rattle.faults.proofs.Rule.{exact}
use Rattle.calls.specs.Answers.{FirstFault}
use Rattle.calls.proofs.Numbers.{fault_number}
use Rattle.ring.specs.declared.Operation.TheVariants.{Plus, Minus}
use Rattle.ring.specs.Element.{plus}
use Rattle.numeration.specs.Elements.{elements}
use Rattle.digit_rules.specs.Broken.{operation_rules, Symmetric}
use Rattle.digit_rules.proofs.Broken.{operation_decided}
use Rattle.digit_rules.proofs.Formed.{symmetric_listed}
use Rattle.reader_rules.specs.Table.{base_part, alphabet_part, input_part, value_of}
use Rattle.reader_rules.specs.TableFacts.{table_facts}
use Rattle.reader_rules.specs.Broken.{table_rules}
use Rattle.reader_rules.specs.Check.{table_check}
use Rattle.reader_rules.proofs.Broken.{table_decided}
use Rattle.reader_rules.proofs.Formed.{well_formed}
use Rattle.reader_rules.proofs.Kept.{no_number}
use Rattle.reader_rules.proofs.Ready.{ready_passed}
use Rattle.row_rules.specs.Broken.{row_rules}
use Rattle.adder_rules.specs.declared.AddedFacts.{AddedFacts}
use Rattle.adder_rules.specs.Sum.{digit_count, place_count}
use Rattle.adder_rules.specs.Calls.{add_outcome, add_sum, subtract_outcome, subtract_difference}
use Rattle.adder_rules.specs.Broken.{result_stages}
use Rattle.adder_rules.proofs.Demand.{demand_1}
use Rattle.adder_rules.proofs.Combined.{passed, combined}
use Rattle.adder_rules.proofs.Values.{value_parts, zeros_on_top}

-- "never in addition"
pub addition_never_42 : (file first second : List ℕ) (room : ℕ) (g : Group) (p : ℕ) → add_outcome file first second room ≡ refused g 42 p → ⊥
addition_never_42 file first second room g p e =
    omega (arith, fault_number (λ n. n ≤ 27) (result_stages Plus file first second room) (omega arith) g 42 p (((demand_1 Plus file first second room).first g 42 p (omega arith)).0 e))

-- A table whose alphabet is symmetric never gives 42, whatever the rows.
pub symmetric_never_42 : (file : List ℕ) → Symmetric (alphabet_part file) → (first second : List ℕ) (room : ℕ) (g : Group) (p : ℕ) → subtract_outcome file first second room ≡ refused g 42 p → ⊥
symmetric_never_42 file mirrored first second room g p e = go (((demand_1 Minus file first second room).first g 42 p (omega arith)).0 e)
  where
    all_kept : AllKept (table_rules file) → AllKept (operation_rules Minus (alphabet_part file) (input_part file))
    all_kept table =
        let passes = no_number (table_check file) ((exact (table_rules file) _ (table_decided file)).passed.1 table) in
        (exact (operation_rules Minus (alphabet_part file) (input_part file)) _ (operation_decided Minus (alphabet_part file) (input_part file))).passed.0 (symmetric_listed (base_part file) (alphabet_part file) (input_part file) ((well_formed file).1 passes).digits mirrored)

    go : FirstFault (result_stages Minus file first second room) g 42 p → ⊥
    go (inl f) = omega (arith, number_of (λ n. n ≤ 13) (table_rules file) (omega arith) 42 p f.1)
    go (inr (t, inl f)) = omega (arith, number_of (λ n. n ≤ 23) (row_rules first second room (digit_count file) (table_facts file).depth) (omega arith) 42 p f.1)
    go (inr (t, inr (r, inl (o, inl b)))) = (all_kept t).0 p b.1.broken
    go (inr (t, inr (r, inl (o, inr b)))) = b.1
    go (inr (t, inr (r, inr (d, inl (o, inl b))))) = omega (arith, b.0)
    go (inr (t, inr (r, inr (d, inl (o, inr b))))) = b.1
    go (inr (t, inr (r, inr (d, inr f)))) = f.1

-- Subtracting and adding back: the difference and the second row, with zeros on top to the difference's length, have a sum of the first
-- row's value.
pub added_back : (file first second out sum : List ℕ) (f k : AddedFacts) → subtract_outcome file first second (length out) ≡ facts f
    → (difference padded : List ℕ) → difference ≡ take (place_count file first) (subtract_difference file first second out) → padded ≡ second ++ replicate (table_facts file).depth 0
    → add_outcome file difference padded (length sum) ≡ facts k → value_of file (take (place_count file difference) (add_sum file difference padded sum)) ≡ value_of file first
unfolding elements
added_back file first second out sum f k given difference padded d q adds =
    let passes = (passed Minus file first second (length out) f given).table in
    (combined Plus file difference padded sum k adds).value_is
    ∙ ap₂ plus ((λ i. value_of file (d i)) ∙ (combined Minus file first second out f given).value_is) ((λ i. value_of file (q i)) ∙ zeros_on_top file passes second (table_facts file).depth)
    ∙ (ready_passed file passes).group.cancel (value_parts file passes first) (value_parts file passes second)
