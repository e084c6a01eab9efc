-- The digits at `count` places from p on, as they are found by a row that agrees with the row of input indexes where they depend on it.
use mathlib.Core.Path.{◌≡◌, ap, ◌∙◌}
use mathlib.Core.List.{List}
use Prim.Native.Nat.{ℕ, ◌+◌, ◌<◌, ◌≤◌}
use native.Mathlib.Nat.{le_antisymm}
use native.Mathlib.Omega.{arith}
use lib.ListN.{length, get_or, take, drop}
use lib.Seq.{take_at}
use Rattle.lists.specs.Span.{span}
use Rattle.lists.specs.Scan.{first_failing}
use Rattle.lists.specs.Overwrite.{overwrite}
use Rattle.lists.proofs.Span.{length_span, span_ext}
use Rattle.lists.proofs.Scan.{scan_high, scan_ext}
use Rattle.lists.proofs.Overwrite.{length_overwrite}
use Rattle.faults.specs.Check.{refusal, none}
use Rattle.faults.proofs.Check.{judge_broken, judge_kept}
use Rattle.reader_rules.specs.TableFacts.{table_facts}
use Rattle.adder_rules.specs.Sum.{row_reach}
use Rattle.adder_rules.specs.Input.{row_index}
use Rattle.adder_rules.specs.Add.{row_allowed, row_part, output_check}
use Rattle.adder_rules.proofs.Rows.{same_index, same_allowed, same_reach}

-- the part of a buffer that was written first
pub written_first : (s new : List ℕ) (n : ℕ) → length new ≡ n → take n (overwrite s 0 new) ≡ new
unfolding overwrite
written_first s new n h = take_at new (drop (0 + length new) s) n h

module _ (file row inputs : List ℕ) (p count : ℕ) (same : (k : ℕ) → p ≤ k + (table_facts file).depth → k < p + count → get_or row k 0 ≡ get_or inputs k 0)
    (found : ℕ) (first_outside : found ≡ first_failing (λ k. row_allowed file row (p + k)) 0 count) where
  near : (j : ℕ) → j < count → (k : ℕ) → k ≤ p + j → p + j ≤ k + (table_facts file).depth → get_or row k 0 ≡ get_or inputs k 0
  near j h k low high = same k (omega arith) (omega arith)

  at : found ≡ first_failing (λ k. row_allowed file inputs (p + k)) 0 count
  at = first_outside ∙ scan_ext (λ k. row_allowed file row (p + k)) (λ k. row_allowed file inputs (p + k)) 0 count (λ k l h. same_allowed file row inputs (p + k) (near k (omega arith)))

  -- 27 at the first place whose digit isn't in the alphabet
  pub check_refused : found < count → output_check file inputs p count ≡ refusal 27 (p + found)
  unfolding output_check
  check_refused h = judge_broken 27 (λ k. p + k) (λ k. row_allowed file inputs (p + k)) count found at h

  pub check_kept : count ≤ found → output_check file inputs p count ≡ none
  unfolding output_check
  check_kept h = judge_kept 27 (λ k. p + k) (λ k. row_allowed file inputs (p + k)) count found at h

  all_found : count ≤ found → found ≡ count
  all_found h = le_antisymm (omega (arith, first_outside, scan_high (λ k. row_allowed file row (p + k)) 0 count)) h

  -- the longest word looked up for them
  pub reach_found : count ≤ found → row_reach file row p found ≡ row_reach file inputs p count
  reach_found h = ap (row_reach file row p) (all_found h) ∙ same_reach file row inputs p count same

  -- the digits found, as a buffer's first bytes hold them
  pub part_found : (s : List ℕ) → count ≤ found → take count (overwrite s 0 (row_part file row p found)) ≡ row_part file inputs p count
  unfolding row_part
  part_found s h =
      written_first s _ count (length_span _ 0 found ∙ all_found h)
      ∙ ap (span (λ k. row_index file row (p + k)) 0) (all_found h)
      ∙ span_ext (λ k. row_index file row (p + k)) (λ k. row_index file inputs (p + k)) 0 0 count (λ k h. same_index file row inputs (p + (0 + k)) (near (0 + k) (omega arith)))

  pub part_room : (s : List ℕ) → count ≤ length s → length (overwrite s 0 (row_part file row p found)) ≡ length s
  unfolding row_part
  part_room s h = length_overwrite s 0 _ (omega (arith, first_outside, length_span (λ k. row_index file row (p + k)) 0 found, scan_high (λ k. row_allowed file row (p + k)) 0 count))
