-- The value call on the rows and the sum that addition and edits left: where it gives elements, that of the sum is the sum of the
-- others. A sum row may be longer than the value call takes: past 256 places, n + h, it says 20.
use mathlib.Core.Path.{◌≡◌, refl, sym, ◌∙◌}
use mathlib.Core.List.{List}
use mathlib.Core.Logic.{inl}
use Prim.Native.Nat.{ℕ, ◌<◌, ◌≤◌}
use native.Mathlib.Nat.{not-suc-le-zero}
use native.Mathlib.Omega.{arith}
use lib.ListN.{length, take, length-take}
use lib.IntN.{ℤ}
use Rattle.faults.specs.Outcome.{facts, refused, author, rows}
use Rattle.faults.specs.Check.{refusal}
use Rattle.faults.proofs.Unless.{unless_none, unless_found}
use Rattle.digit_rules.specs.Record.{element_count}
use Rattle.reader_rules.specs.Table.{alphabet_part, operations_of}
use Rattle.reader_rules.specs.Check.{table_check}
use Rattle.row_rules.specs.declared.Change.{Change}
use Rattle.row_rules.specs.Check.{one_row_check}
use Rattle.row_rules.proofs.Broken.{one_row_exact}
use Rattle.table_rules.specs.Check.{check_facts, check_outcome}
use Rattle.adder_rules.specs.declared.AddedFacts.{AddedFacts}
use Rattle.adder_rules.specs.Sum.{place_count}
use Rattle.ring.specs.declared.Operation.TheVariants.{Plus}
use Rattle.adder_rules.specs.Calls.{add_outcome}
use Rattle.adder_rules.proofs.Accepted.{accepted_passes}
use Rattle.adder_rules.proofs.Combined.{passed}
use Rattle.edit_rules.specs.State.{State}
use Rattle.edit_rules.specs.Run.{run}
use Rattle.edit_rules.proofs.Follows.{demand_3}
use Rattle.value_call_rules.specs.Value.{row_outcome, value_outcome}
use Rattle.value_call_rules.proofs.Demand.{element_is_value}

-- After a fresh addition with an accepted table and every prefix of any list of edits.
pub value_of_sum : (file : List ℕ) → check_outcome file ≡ facts (check_facts file) → (s : State) (f : AddedFacts)
    → add_outcome file s.first s.second (length s.sum) ≡ facts f → (es : List Change) (k : ℕ) → k ≤ length es → (x y z : List ℤ)
    → value_outcome file (run file s (take k es)).buffers.first ≡ facts x
    → value_outcome file (run file s (take k es)).buffers.second ≡ facts y
    → value_outcome file (take (place_count file s.first) (run file s (take k es)).buffers.sum) ≡ facts z
    → z ≡ (operations_of file).sum x y
value_of_sum file accepted s f given es k h x y z first second sum =
    element_is_value file _ z sum
    ∙ ((demand_3 file accepted s f given es).after k h).value_is
    ∙ sym (λ i. (operations_of file).sum (element_is_value file _ x first i) (element_is_value file _ y second i))

-- The same sum row where n + h passes 256: its value is that of demand 3, but the value call refuses the row for its length.
pub sum_too_long : (file : List ℕ) → check_outcome file ≡ facts (check_facts file) → (s : State) (f : AddedFacts)
    → add_outcome file s.first s.second (length s.sum) ≡ facts f → (es : List Change) (k : ℕ) → k ≤ length es → 256 < place_count file s.first
    → value_outcome file (take (place_count file s.first) (run file s (take k es)).buffers.sum) ≡ refused rows 20 0
unfolding value_outcome row_outcome
sum_too_long file accepted s f given es k h over =
    let row = take (place_count file s.first) (run file s (take k es)).buffers.sum in
    let room : place_count file s.first ≤ length s.sum = (passed Plus file s.first s.second (length s.sum) f given).fit.room in
    let long : 256 < length row = omega (arith, length-take (place_count file s.first) (run file s (take k es)).buffers.sum, ((demand_3 file accepted s f given es).after k h).long) in
    let found : one_row_check row (element_count (alphabet_part file)) ≡ refusal 20 0 = ((one_row_exact row (element_count (alphabet_part file))).refused 20 0 (omega arith)).1 (inl (refl, record { broken = (refl, long); earliest = λ q l. absurd (not-suc-le-zero l) })) in
    unless_none author (table_check file) _ (accepted_passes file accepted) ∙ rw found (unless_found rows (refusal 20 0) _ (λ z. omega arith))
