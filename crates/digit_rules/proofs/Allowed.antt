-- Laws of rules 7, 8 and 42 for the functions that run them: one for each answer, of what was read.
use mathlib.Core.Path.{◌≡◌, refl, sym, ap, ◌∙◌}
use mathlib.Core.Bool.{Bool, true, false}
use mathlib.Core.List.{List}
use Prim.Native.Nat.{ℕ, zero, suc, ◌+◌, ◌-◌, ◌<◌, ◌≤◌}
use native.Mathlib.Nat.{le_antisymm}
use native.Mathlib.Omega.{arith}
use lib.IntN.{ℤ}
use lib.Dec.{eqb}
use borrow.Author.Tests.{lt-ltb, le-ltb}
use Rattle.lists.specs.Scan.{first_failing}
use Rattle.lists.proofs.Scan.{scan_on, every_below, every_reached}
use Rattle.faults.specs.Check.{refusal, none, judge}
use Rattle.faults.proofs.Check.{judge_broken, judge_kept, judge_here, judge_out}
use Rattle.ring.specs.Padded.{width}
use Rattle.layout_rules.specs.Section.{Section}
use Rattle.ring.specs.Element.{zeros}
use Rattle.ring.specs.declared.Operation.{Operation}
use Rattle.ring.specs.declared.Operation.TheVariants.{Plus, Minus}
use Rattle.ring.specs.Tests.{same}
use Rattle.digit_rules.specs.Record.{record_at, element_count}
use Rattle.digit_rules.specs.Digits.{index_in, record_allowed, pair_index, pair_listed, pairs_listed, all_pairs_listed, inputs_allowed, input_check, operation_check}

module _ (part : Section) (k : ℕ) (x : List ℤ) (reads : x ≡ record_at part k) where
  pub allowed_first : (r : Bool) → k ≡ 0 → r ≡ same x (zeros width) → r ≡ record_allowed part k
  unfolding record_allowed
  allowed_first r first is = is ∙ rw (reads, first)

  pub allowed_later : (found : ℕ) → (k ≡ 0 → ⊥) → found ≡ index_in part k x → eqb found k ≡ record_allowed part k
  allowed_later found later is = rw (is, reads) (by_place k later)
    where
      by_place : (k : ℕ) → (k ≡ 0 → ⊥) → eqb (index_in part k (record_at part k)) k ≡ record_allowed part k
      by_place zero h = absurd (h refl)
      by_place (suc k) h = unfold record_allowed in refl

-- an input index and a count as they were read
module _ (op : Operation) (alphabet inputs : Section) (i j found count : ℕ) (is : found ≡ pair_index op alphabet inputs i j) (counts : count ≡ element_count inputs) where
  pub pair_missing : count ≤ found → pair_listed op alphabet inputs i j ≡ false
  unfolding pair_listed
  pair_missing h = rw (← is, ← counts) (le-ltb found count h)

  pub pair_there : found < count → pair_listed op alphabet inputs i j ≡ true
  unfolding pair_listed
  pair_there h = rw (← is, ← counts) (lt-ltb found count h)

-- rule 8 judges each record, and after them whether a sum is missing
pub at_record : (alphabet inputs : Section) (k : ℕ) → k < element_count inputs → inputs_allowed alphabet inputs k ≡ record_allowed inputs k
unfolding inputs_allowed
at_record alphabet inputs k h = rw (lt-ltb k (element_count inputs) h, inputs_allowed)

pub after_records : (alphabet inputs : Section) (k : ℕ) → element_count inputs ≤ k → inputs_allowed alphabet inputs k ≡ all_pairs_listed Plus alphabet inputs
unfolding inputs_allowed
after_records alphabet inputs k h = rw (le-ltb k (element_count inputs) h, inputs_allowed)

-- the first k of them are allowed
abbrev pub Passed : Section → Section → ℕ → ℕ → Type 0
Passed alphabet inputs n k = first_failing (inputs_allowed alphabet inputs) k (n + 1 - k) ≡ first_failing (inputs_allowed alphabet inputs) 0 (n + 1)

module _ (alphabet inputs : Section) (n k : ℕ) (counts : n ≡ element_count inputs) (passed : Passed alphabet inputs n k) where
  answer : judge 8 (λ k. k) (inputs_allowed alphabet inputs) (n + 1) ≡ input_check alphabet inputs
  unfolding input_check
  answer = ap (λ n. judge 8 (λ k. k) (inputs_allowed alphabet inputs) (n + 1)) counts

  module _ (found : Bool) (inside : k < n) (is : found ≡ record_allowed inputs k) where
    pub input_broken : found ≡ false → refusal 8 k ≡ input_check alphabet inputs
    input_broken h =
        judge_here 8 (λ k. k) (inputs_allowed alphabet inputs) (n + 1) k passed (omega arith) (at_record alphabet inputs k (omega arith) ∙ sym is ∙ h) ∙ answer

    pub input_on : found ≡ true → Passed alphabet inputs n (k + 1)
    input_on h =
        sym (scan_on (inputs_allowed alphabet inputs) k (n + 1) (omega arith) (at_record alphabet inputs k (omega arith) ∙ sym is ∙ h)) ∙ passed

  module _ (low : k ≤ n) (high : n ≤ k) where
    pub only_missing : all_pairs_listed Plus alphabet inputs ≡ false → refusal 8 n ≡ input_check alphabet inputs
    only_missing h =
        ap (refusal 8) (le_antisymm high low) ∙ judge_here 8 (λ k. k) (inputs_allowed alphabet inputs) (n + 1) k passed (omega arith) (after_records alphabet inputs k (omega arith) ∙ h) ∙ answer

    pub inputs_kept : all_pairs_listed Plus alphabet inputs ≡ true → none ≡ input_check alphabet inputs
    inputs_kept h =
        judge_out 8 (λ k. k) (inputs_allowed alphabet inputs) (n + 1) (k + 1) (sym (scan_on (inputs_allowed alphabet inputs) k (n + 1) (omega arith) (after_records alphabet inputs k (omega arith) ∙ h)) ∙ passed) (omega arith) ∙ answer

-- the first alphabet digit with which the operation makes something that isn't listed, as it was looked for
abbrev FirstUnlisted : Operation → Section → Section → ℕ → Type 0
FirstUnlisted op alphabet inputs found = found ≡ first_failing (pairs_listed op alphabet inputs) 0 (element_count alphabet)

module _ (op : Operation) (alphabet inputs : Section) (found n : ℕ) (is : FirstUnlisted op alphabet inputs found) (counts : n ≡ element_count alphabet) where
  pub some_unlisted : found < n → all_pairs_listed op alphabet inputs ≡ false
  unfolding all_pairs_listed
  some_unlisted h = every_below (pairs_listed op alphabet inputs) (element_count alphabet) (omega arith)

  pub none_unlisted : n ≤ found → all_pairs_listed op alphabet inputs ≡ true
  unfolding all_pairs_listed
  none_unlisted h = every_reached (pairs_listed op alphabet inputs) (element_count alphabet) (omega arith)

-- 42 at that digit
module _ (alphabet inputs : Section) (found n : ℕ) (is : FirstUnlisted Minus alphabet inputs found) (counts : n ≡ element_count alphabet) where
  pub difference_missing : found < n → refusal 42 found ≡ operation_check Minus alphabet inputs
  unfolding operation_check
  difference_missing h = sym (judge_broken 42 (λ k. k) (pairs_listed Minus alphabet inputs) (element_count alphabet) found is (omega arith))

  pub differences_kept : n ≤ found → none ≡ operation_check Minus alphabet inputs
  unfolding operation_check
  differences_kept h = sym (judge_kept 42 (λ k. k) (pairs_listed Minus alphabet inputs) (element_count alphabet) found is (omega arith))
