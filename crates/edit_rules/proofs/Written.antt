-- A part of a buffer that digits are written over, byte by byte.
use mathlib.Core.Path.{◌≡◌, refl, sym, ap, ◌∙◌}
use mathlib.Core.List.{List}
use Prim.Native.Nat.{ℕ, ◌+◌, ◌-◌, ◌<◌, ◌≤◌}
use native.Mathlib.Omega.{arith}
use native.Mathlib.Nat.{zero-add, sub-zero}
use lib.ListN.{length, get_or, take, set}
use lib.Seq.{length-take-le, take_all}
use lib.Dec.{eqb}
use borrow.Author.Tests.{eq-eqb, ne_eqb}
use Rattle.lists.specs.Overwrite.{overwrite}
use Rattle.lists.proofs.Overwrite.{overwrite_step}
use Rattle.lists.proofs.Entries.{overwrite_behind}
use Rattle.adder_rules.proofs.Part.{written_first}
use Rattle.edit_rules.specs.Count.{differing}
use Rattle.edit_rules.proofs.Count.{failing_on, failing_here, failing_out}

module _ (part digits : List ℕ) (same : length digits ≡ length part) where
  -- k bytes are written
  module _ (t : List ℕ) (k : ℕ) (is : t ≡ overwrite part 0 (take k digits)) where
    -- the next one is still the part's own
    byte_kept : k < length part → get_or t k 0 ≡ get_or part k 0
    byte_kept h =
        let l : length (take k digits) ≡ k = length-take-le k digits (omega arith) in
        let at : k ≡ 0 + length (take k digits) + 0 = omega arith in
        ap (λ (x : List ℕ). get_or x k 0) is ∙ ap (λ (n : ℕ). get_or (overwrite part 0 (take k digits)) n 0) at ∙ overwrite_behind part (take k digits) 0 (omega arith) 0 ∙ ap (λ (n : ℕ). get_or part n 0) (sym at)

    pub next_written : k < length part → set t k (get_or digits k 0) ≡ overwrite part 0 (take (k + 1) digits)
    next_written h =
        ap (λ (x : List ℕ). set x k (get_or digits k 0)) is ∙ ap (λ (n : ℕ). set (overwrite part 0 (take k digits)) n (get_or digits k 0)) (sym (zero-add k)) ∙ overwrite_step part 0 digits k 0 (omega arith) (omega arith)

    pub all_written : length t ≡ length part → length part ≤ k → t ≡ digits
    all_written l h =
        sym (take_all (length digits) t (omega arith)) ∙ ap (take (length digits)) (is ∙ ap (overwrite part 0) (take_all k digits (omega arith))) ∙ written_first part digits (length digits) refl

    -- the count so far, and what is to come
    module _ (count : ℕ) (so_far : count + differing part digits k (length part - k) ≡ differing part digits 0 (length part)) (h : k < length part) where
      pub count_more : (get_or t k 0 ≡ get_or digits k 0 → ⊥) → count + 1 + differing part digits (k + 1) (length part - (k + 1)) ≡ differing part digits 0 (length part)
      count_more other =
          omega (arith, failing_here (λ j. eqb (get_or part j 0) (get_or digits j 0)) k (length part) h (ne_eqb _ _ (λ e. other (byte_kept h ∙ e))))

      pub count_on : get_or t k 0 ≡ get_or digits k 0 → count + differing part digits (k + 1) (length part - (k + 1)) ≡ differing part digits 0 (length part)
      count_on e = omega (arith, failing_on (λ j. eqb (get_or part j 0) (get_or digits j 0)) k (length part) h (eq-eqb _ _ (sym (byte_kept h) ∙ e)))

  -- before the first byte, and after the last
  pub count_start : 0 + differing part digits 0 (length part - 0) ≡ differing part digits 0 (length part)
  count_start = zero-add _ ∙ ap (differing part digits 0) (sub-zero (length part))

  pub count_end : (count k : ℕ) → count + differing part digits k (length part - k) ≡ differing part digits 0 (length part) → length part ≤ k → count ≡ differing part digits 0 (length part)
  count_end count k so_far h = omega (arith, failing_out (λ j. eqb (get_or part j 0) (get_or digits j 0)) k (length part) h)
