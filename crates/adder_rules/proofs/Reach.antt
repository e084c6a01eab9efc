-- The reach that addition and subtraction report, where they aren't refused.
use mathlib.Core.Path.{◌≡◌, sym, ap, subst, ◌∙◌}
use mathlib.Core.List.{List}
use Prim.Native.Nat.{ℕ, ◌+◌, ◌<◌}
use native.Mathlib.Decide.{dec_lt}
use native.Mathlib.Omega.{arith}
use lib.ListN.{length, get_or, get_or-eq_default}
use Rattle.lists.proofs.Span.{length_span, get_d_span}
use Rattle.faults.specs.Outcome.{facts}
use Rattle.ring.specs.declared.Operation.{Operation}
use Rattle.digit_rules.specs.Digits.{pair_index}
use Rattle.digit_rules.proofs.Formed.{pair_index_zero}
use Rattle.numeration.specs.Code.{Inputs}
use Rattle.numeration.proofs.Reach.{reach_is, reach_range, reach_zeros, convert_within}
use Rattle.reader_rules.specs.Table.{alphabet_part, input_part, input_count, leaves_in}
use Rattle.reader_rules.specs.TableFacts.{table_facts}
use Rattle.reader_rules.specs.Check.{table_check}
use Rattle.reader_rules.proofs.Ready.{ready_passed}
use Rattle.adder_rules.specs.declared.AddedFacts.{AddedFacts}
use Rattle.adder_rules.specs.Sum.{place_count, row_reach}
use Rattle.adder_rules.specs.Input.{input_of, input_row}
use Rattle.adder_rules.specs.Add.{result_outcome}
use Rattle.adder_rules.specs.Reach.{RowReach}
use Rattle.adder_rules.proofs.Accepted.{row_inputs}
use Rattle.adder_rules.proofs.Combined.{Passed, passed}
use Rattle.adder_rules.proofs.Demand.{demand_1}

-- of any row of input digits, with a table that passes 1 to 13
pub row_reach_lem : (file row : List ℕ) → (table_check file).number ≡ 0 → Inputs (input_count file) row → (p count : ℕ) → 0 < count → RowReach file row p count (row_reach file row p count)
unfolding table_facts
row_reach_lem file row passes all p count some =
    let c = leaves_in file in
    let code = (ready_passed file passes).code in
    record {
      longest = reach_is c row p count some;
      least = (reach_range c (input_count file) code row all p count some).0;
      most = (reach_range c (input_count file) code row all p count some).1;
      beyond = λ other j low high same. convert_within c (input_count file) code _ _ row other all j p count low high same;
      zeros = λ none. reach_zeros c (input_count file) code row none p count some;
    }

module _ (op : Operation) (file first second : List ℕ) (room : ℕ) (f : AddedFacts) (given : result_outcome op file first second room ≡ facts f) where
  is : Passed op file first second room
  is = passed op file first second room f given

  -- The reach that is reported is that of places 0 to n + h − 1.
  pub result_reach : RowReach file (input_row op file first second) 0 (place_count file first) f.reach
  result_reach =
      subst (RowReach file (input_row op file first second) 0 (place_count file first)) (sym (ap (λ (a : AddedFacts). a.reach) ((demand_1 op file first second room).only_facts f given)))
      (row_reach_lem file (input_row op file first second) is.table (row_inputs op file first second room is.table is.asked is.fit) 0 (place_count file first) (omega (arith, (ready_passed file is.table).depth_low)))

  -- Two rows of zeros have the length of leaf 0's word.
  pub zeros_reach : ((i : ℕ) → get_or first i 0 ≡ 0) → ((i : ℕ) → get_or second i 0 ≡ 0) → f.reach ≡ (leaves_in file).size 0
  unfolding input_row
  zeros_reach none nothing = result_reach.zeros zero_at
    where
      zero_at : (i : ℕ) → get_or (input_row op file first second) i 0 ≡ 0
      zero_at i =
          elim (dec_lt i (length first)) [
            | yes h ↦ let r = ready_passed file is.table in
                get_d_span (input_of op file first second) 0 (length first) i 0 h ∙ (λ k. pair_index op (alphabet_part file) (input_part file) (none (0 + i) k) (nothing (0 + i) k)) ∙ pair_index_zero op (alphabet_part file) (input_part file) r.alphabet_zero r.input_zero
            | no h ↦ get_or-eq_default (input_row op file first second) 0 {n = i} (omega (arith, length_span (input_of op file first second) 0 (length first)))
          ]
