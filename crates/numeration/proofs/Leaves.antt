-- Leaves: the look-up finds the leaf that begins a string; order of neighbours separates all leaves; strings of a length.
use mathlib.Core.Path.{◌≡◌, sym, ap, ◌∙◌}
use mathlib.Core.Bool.{true, not}
use mathlib.Core.Logic.{◌↔◌}
use mathlib.Core.List.{List}
use Prim.Native.Nat.{ℕ, zero, suc, ◌+◌, ◌-◌, ◌<◌, ◌≤◌}
use native.Mathlib.Omega.{arith}
use native.Mathlib.Decide.{dec_lt}
use native.Mathlib.Nat.{zero-add, add-zero, add-suc}
use borrow.Author.Tests.{not-false, not-true}
use lib.ListN.{length, get_or, get_or-eq_default}
use Rattle.lists.specs.Span.{span}
use Rattle.lists.proofs.Span.{length_span, get_d_span}
use Rattle.lists.proofs.Scan.{scan_passed, scan_failed, scan_ext}
use Rattle.lists.proofs.Test.{clash}
use Rattle.numeration.specs.Code.{Code, Agree, Inputs, Begins, Precedes, HasLeaf}
use Rattle.numeration.specs.LeafOf.{begins, leaf_of, depth}
use Rattle.numeration.specs.Prefix.{Comparable, Separate, Complete, CompleteAt, OrderedCode, PrefixCode, precedes}
use Rattle.numeration.proofs.Agreement.{agree_sound, agree_complete, agree_ext, lower_sound, lower_complete, largest_bound, largest_reached}

-- a place outside the row holds the digit zero, so a row's places all hold input indexes
pub get_d_inputs : (m : ℕ) (row : List ℕ) → 0 < m → Inputs m row → (i : ℕ) → get_or row i 0 < m
get_d_inputs m row some all i =
    elim (dec_lt i (length row)) [ yes h ↦ all i h | no h ↦ rw (get_or-eq_default row 0 {n = i} (omega arith)) some ]

module _ {A : Type 0} (c : Code A) where
  pub size_depth : (k : ℕ) → k < c.leaves → c.size k ≤ depth c
  unfolding depth
  size_depth k h = largest_bound c.size c.leaves k h

  pub depth_reached : 0 < c.leaves → (k : ℕ) × (k < c.leaves) × (c.size k ≡ depth c)
  unfolding depth
  depth_reached h = largest_reached c.size c.leaves h

  -- the look-up gives a leaf that begins the string where it gives a leaf at all, and it does where some leaf begins the string
  pub leaf_of_found : (w : ℕ → ℕ) → leaf_of c w < c.leaves → Begins c (leaf_of c w) w
  unfolding leaf_of begins
  leaf_of_found w h = agree_sound _ _ _ (not-false _ (scan_failed (λ k. not (begins c k w)) 0 c.leaves (omega arith)))

  pub leaf_of_begins : (w : ℕ → ℕ) → HasLeaf c w → (leaf_of c w < c.leaves) × Begins c (leaf_of c w) w
  unfolding leaf_of begins
  leaf_of_begins w (k, h, b) =
      elim (dec_lt k (leaf_of c w)) [
        | yes l ↦ clash (agree_complete _ _ _ b) (not-true _ (scan_passed _ 0 c.leaves k (omega arith) l))
        | no l ↦ (omega arith, leaf_of_found w (omega arith))
      ]

  -- two leaves that begin one string agree as far as both reach
  begin_same : (k l : ℕ) {w : ℕ → ℕ} → Begins c k w → Begins c l w → Comparable c k l
  begin_same k l b d i h = b i (omega arith) ∙ sym (d i (omega arith))

  -- and where no word begins another, that leaf is the look-up's
  pub leaf_of_unique : Separate c → (w : ℕ → ℕ) (k : ℕ) → k < c.leaves → Begins c k w → leaf_of c w ≡ k
  leaf_of_unique apart w k h b = let (l, d) = leaf_of_begins w (k, h, b) in apart _ k l h (begin_same _ k d b)

  -- the look-up reads the first h digits only
  pub leaf_of_ext : (v w : ℕ → ℕ) → Agree v w (depth c) → leaf_of c v ≡ leaf_of c w
  unfolding leaf_of begins
  leaf_of_ext v w h =
      scan_ext _ _ 0 c.leaves (λ k low high. ap not (agree_ext _ _ _ _ (λ i l. h i (omega (arith, size_depth k (omega arith))))))

  -- the order of words is transitive, and no word begins one that it precedes
  precedes_trans : (k l m : ℕ) → Precedes c k l → Precedes c l m → Precedes c k m
  precedes_trans k l m (i, hi, a, d) (j, hj, b, e) =
      elim (dec_lt i j) [
        | yes p ↦ (i, omega arith, (λ n h. a n h ∙ b n (omega arith)), omega (arith, b i p))
        | no p ↦ elim (dec_lt j i) [
          | yes q ↦ (j, omega arith, (λ n h. a n (omega arith) ∙ b n h), omega (arith, a j q))
          | no q ↦ let same : j ≡ i = omega arith in (i, omega arith, (λ n h. a n h ∙ b n (omega arith)), omega (arith, rw same at e))
        ]
      ]

  precedes_apart : (k l : ℕ) → Precedes c k l → Comparable c k l → ⊥
  precedes_apart k l (i, h, a, d) same = omega (arith, same i h)

  module _ (ordered : (k : ℕ) → suc k < c.leaves → Precedes c k (suc k)) where
    -- from neighbours to all pairs
    precedes_from : (k d : ℕ) → suc (k + d) < c.leaves → Precedes c k (suc (k + d))
    precedes_from k zero h = rw add-zero (ordered k (omega arith))
    precedes_from k (suc d) h = rw add-suc (precedes_trans k (suc (k + d)) _ (precedes_from k d (omega arith)) (ordered (suc (k + d)) (omega arith)))

    pub precedes_all : (k l : ℕ) → k < l → l < c.leaves → Precedes c k l
    precedes_all k l h high = rw (split k l h) (precedes_from k (l - suc k) (omega arith))
      where
        split : (k l : ℕ) → k < l → l ≡ suc (k + (l - suc k))
        split k l h = omega arith

    pub ordered_separate : Separate c
    ordered_separate k l hk hl same =
        elim (dec_lt k l) [
          | yes p ↦ absurd (precedes_apart k l (precedes_all k l p hl) same)
          | no p ↦ elim (dec_lt l k) [
            | yes q ↦ absurd (precedes_apart l k (precedes_all l k q hk) (λ i h. sym (same i (omega arith))))
            | no q ↦ omega arith
          ]
        ]

    -- the leaf that begins the window of zeros is the lowest
    ordered_zeros : HasLeaf c (λ i. 0) → Begins c 0 (λ i. 0)
    ordered_zeros (k, h, b) = lowest k h b
      where
        lowest : (k : ℕ) → k < c.leaves → Begins c k (λ i. 0) → Begins c 0 (λ i. 0)
        lowest zero h b = b
        lowest (suc k) h b = let (i, hi, a, d) = precedes_all 0 (suc k) (omega arith) h in absurd (none i d (b i (omega arith)))
          where
            none : (i : ℕ) → c.digit 0 i < c.digit (suc k) i → c.digit (suc k) i ≡ 0 → ⊥
            none i d e = omega arith

  -- the test of the order says what the statement says
  pub precedes_sound : (k l : ℕ) → precedes c k l ≡ true → Precedes c k l
  unfolding precedes
  precedes_sound k l h = lower_sound _ _ _ h

  pub precedes_complete : (k l : ℕ) → Precedes c k l → precedes c k l ≡ true
  unfolding precedes
  precedes_complete k l h = lower_complete _ _ _ h

  -- strings of n digits suffice where no word is longer than n, and are needed
  pub complete_strings : (n m : ℕ) → 0 < m → ((k : ℕ) → k < c.leaves → c.size k ≤ n) → CompleteAt c n m ↔ Complete c m
  complete_strings n m some short = (extend, restrict)
    where
      read : (w : ℕ → ℕ) (i : ℕ) → i < n → get_or (span w 0 n) i 0 ≡ w i
      read w i h = get_d_span w 0 n i 0 h ∙ ap w (zero-add i)

      extend : CompleteAt c n m → Complete c m
      extend all w h =
          let (k, hk, b) = all (span w 0 n) (length_span w 0 n) (λ i l. rw (read w i (omega (arith, length_span w 0 n))) (h i)) in
          (k, hk, λ i l. b i l ∙ read w i (omega (arith, short k hk)))

      restrict : Complete c m → CompleteAt c n m
      restrict all s e h = all (λ i. get_or s i 0) (get_d_inputs m s some h)

  -- rules 9 to 12 make a complete prefix code
  pub prefix_code : (n m : ℕ) → OrderedCode c n m → PrefixCode c m
  prefix_code n m r =
      let complete : Complete c m = (complete_strings n m r.some_input r.short).0 r.strings in
      let lowest : HasLeaf c (λ i. 0) = complete (λ i. 0) (λ i. r.some_input) in
      record {
        some_input = r.some_input;
        some_leaf = omega (arith, lowest.1);
        nonempty = r.nonempty;
        indexes = r.indexes;
        complete = complete;
        separate = ordered_separate r.ordered;
        zeros = ordered_zeros r.ordered lowest;
      }
