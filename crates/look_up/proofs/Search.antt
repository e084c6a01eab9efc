-- Laws of the look-up's binary search.
use mathlib.Core.Path.{◌≡◌, refl, sym, ap, subst, ◌∙◌}
use mathlib.Core.Bool.{Bool, true, false}
use mathlib.Core.List.{List}
use Prim.Native.Nat.{ℕ, ◌+◌, ◌-◌, ◌<◌, ◌≤◌, min}
use native.Mathlib.Decide.{dec_lt}
use native.Mathlib.Omega.{arith}
use Rattle.layout_rules.specs.Section.{Section}
use Rattle.lists.proofs.Test.{clash}
use Rattle.numeration.specs.Code.{Code, Lower, Precedes, Begins}
use Rattle.numeration.proofs.Agreement.{lower_sound, lower_complete}
use Rattle.numeration.proofs.Leaves.{precedes_all, ordered_separate, leaf_of_unique}
use Rattle.leaf_rules.specs.Leaf.{code_of}
use Rattle.leaf_rules.specs.Given.{length_given}
use Rattle.leaf_rules.specs.Window.{digits, Sorted, LookedUp}
use Rattle.look_up.specs.Search.{above, next_low, Between}

module _ {A : Type 0} (c : Code A) (window : List ℕ) where
  -- a leaf k that begins the window, beside any other
  module _ (s : Sorted c) (k : ℕ) (leaf : k < c.leaves) (b : Begins c k (digits window)) (other : ℕ) (is : other < c.leaves) where
    -- above the window are only later leaves
    later : Lower (digits window) (c.digit other) (min (c.size other) 8) → k < other
    later (i, h, a, d) =
        elim (dec_lt k other) [
          | yes l ↦ l
          | no l ↦ elim (dec_lt other k) [
            | yes q ↦ absurd (not_before (precedes_all c s.ordered other k q leaf))
            | no q ↦ let same : other ≡ k = omega arith in absurd (not_same same)
          ]
        ]
      where
        not_same : other ≡ k → ⊥
        not_same e = omega (arith, b i (omega (arith, ap c.size e)), ap (λ (l : ℕ). c.digit l i) e)

        not_before : Precedes c other k → ⊥
        not_before (j, hj, g, e) =
            elim (dec_lt i j) [
              | yes p ↦ omega (arith, g i p, b i (omega arith))
              | no p ↦ elim (dec_lt j i) [
                | yes q ↦ omega (arith, a j q, b j (omega arith))
                | no q ↦ let same : j ≡ i = omega arith in omega (arith, b j (omega arith), ap (c.digit other) same, ap (digits window) same)
              ]
            ]

    pub above_later : above c window other ≡ true → k < other
    unfolding above
    above_later h = later (lower_sound _ _ _ h)

    -- and all later leaves are above it
    pub not_above : above c window other ≡ false → other ≤ k
    unfolding above
    not_above h =
        elim (dec_lt k other) [
          | yes l ↦ clash (lower_complete _ _ _ (higher (precedes_all c s.ordered k other l is))) h
          | no l ↦ omega arith
        ]
      where
        higher : Precedes c k other → Lower (digits window) (c.digit other) (min (c.size other) 8)
        higher (i, h, a, d) = (i, omega (arith, s.short k leaf), (λ j l. sym (b j (omega arith)) ∙ a j l), omega (arith, b i (omega arith)))

  pub next_lower : (low half : ℕ) → above c window (low + half) ≡ true → low ≡ next_low c window low half
  unfolding next_low
  next_lower low half e = rw (next_low, e)

  pub next_upper : (low half : ℕ) → above c window (low + half) ≡ false → low + half ≡ next_low c window low half
  unfolding next_low
  next_upper low half e = rw (next_low, e)

  pub between_all : (n : ℕ) → n ≡ c.leaves → Between c window 0 (0 + n)
  between_all n all = record { rising = omega arith; inside = omega arith; some = λ h. omega arith; holds = λ s k h b. omega arith }

  module _ (low size half : ℕ) (at : Between c window low (low + size)) (some : 0 < half) (l : half < size) where
    between_lower : half + half ≤ size → above c window (low + half) ≡ true → Between c window low (low + (size - half))
    between_lower h e =
        record {
          rising = omega arith;
          inside = omega (arith, at.inside);
          some = λ _. omega arith;
          holds = λ s k leaf b. ((at.holds s k leaf b).0, omega (arith, above_later s k leaf b (low + half) (omega (arith, at.inside)) e));
        }

    between_upper : above c window (low + half) ≡ false → Between c window (low + half) (low + half + (size - half))
    between_upper e =
        record {
          rising = omega arith;
          inside = omega (arith, at.inside);
          some = λ _. omega arith;
          holds = λ s k leaf b. (not_above s k leaf b (low + half) (omega (arith, at.inside)) e, omega (arith, (at.holds s k leaf b).1));
        }

    -- by either half, of which the upper one is the larger
    pub between_next : half + half ≤ size → (next : ℕ) → next ≡ next_low c window low half → Between c window next (next + (size - half))
    between_next h next e = either (above c window (low + half)) refl
      where
        at_next : (n : ℕ) → n ≡ next_low c window low half → Between c window n (n + (size - half)) → Between c window next (next + (size - half))
        at_next n q b = subst (λ (n : ℕ). Between c window n (n + (size - half))) (q ∙ sym e) b

        either : (b : Bool) → above c window (low + half) ≡ b → Between c window next (next + (size - half))
        either true q = at_next low (next_lower low half q) (between_lower h q)
        either false q = at_next (low + half) (next_upper low half q) (between_upper q)

  -- and from a place that was tried at both ends
  pub between_tried : (low high : ℕ) → low < high → high ≤ c.leaves → above c window low ≡ false → (high < c.leaves → above c window high ≡ true) → Between c window low high
  between_tried low high some inside below up =
      record {
        rising = omega arith;
        inside = inside;
        some = λ _. some;
        holds = λ s k leaf b. (not_above s k leaf b low (omega arith) below, elim (dec_lt high c.leaves) [ yes h ↦ above_later s k leaf b high h (up h) | no h ↦ omega arith ]);
      }

  pub between_one : (low high : ℕ) → Between c window low high → high ≤ low + 1 → LookedUp c window low
  between_one low high at h =
      record {
        a_leaf = λ n. omega (arith, at.some n, at.inside);
        the_leaf = λ s w. let (k, leaf, b) = w in let range = at.holds s k leaf b in let same : low ≡ k = omega arith in same ∙ sym (leaf_of_unique c (ordered_separate c s.ordered) (digits window) k leaf b);
      }

  -- a leaf that begins the window is the one looked up
  pub begins_looked_up : (k : ℕ) → k < c.leaves → Begins c k (digits window) → LookedUp c window k
  begins_looked_up k leaf b =
      record {
        a_leaf = λ _. leaf;
        the_leaf = λ s w. sym (leaf_of_unique c (ordered_separate c s.ordered) (digits window) k leaf b);
      }

-- the leaf looked up, given back with its length
pub with_length_found : (leaves : Section) (words window : List ℕ) (leaf r size : ℕ) → LookedUp (code_of leaves words) window leaf → r ≡ leaf → size ≡ length_given leaves leaf → LookedUp (code_of leaves words) window r × (size ≡ length_given leaves r)
with_length_found leaves words window leaf r size found same e = (subst (LookedUp (code_of leaves words) window) (sym same) found, e ∙ ap (length_given leaves) (sym same))
