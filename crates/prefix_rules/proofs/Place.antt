-- Laws of rule 9 for the functions that run it: one for each answer; what its test says.
use mathlib.Core.Path.{◌≡◌, refl, sym, ap, ◌∙◌}
use mathlib.Core.Bool.{true, false, ◌&&◌}
use mathlib.Core.List.{List}
use mathlib.Core.Logic.{inl, inr, ⊎_elim, ◌↔◌}
use Prim.Native.Nat.{ℕ, zero, suc, ◌+◌, ◌-◌, ◌<◌, ◌≤◌}
use native.Mathlib.Omega.{arith}
use lib.ListN.{length}
use lib.Dec.{leb, ltb, eqb}
use borrow.Author.Tests.{lt-ltb, le-ltb, le-leb, lt-leb, eq-eqb, ne_eqb, ltb-true, ltb-false, leb-true, leb-false, eqb-true, eqb-false}
use Rattle.layout_rules.specs.Section.{Section}
use Rattle.lists.proofs.Test.{both, either, not_both, neither}
use Rattle.leaf_rules.specs.Leaf.{leaf_count, word_start, word_length, word_end}
use Rattle.prefix_rules.specs.Check.{expected_word_start, leaf_allowed}
use Rattle.prefix_rules.specs.Broken.{WordFollows, Broken9}

pub expected_first : (leaves : Section) (k : ℕ) → k ≡ 0 → 0 ≡ expected_word_start leaves k
unfolding expected_word_start
expected_first leaves k h = rw h

pub expected_next : (leaves : Section) (k : ℕ) → (k ≡ 0 → ⊥) → expected_word_start leaves k ≡ word_end leaves (k - 1)
unfolding expected_word_start
expected_next leaves zero h = absurd (h refl)
expected_next leaves (suc k) h = ap (word_end leaves) (omega arith)

-- a leaf whose offset and length were read
module _ (leaves : Section) (n k start size : ℕ) (starts : start ≡ word_start leaves k) (sizes : size ≡ word_length leaves k) where
  pub leaf_empty : size < 1 → false ≡ leaf_allowed leaves n k
  unfolding leaf_allowed
  leaf_empty h = rw (lt-leb 1 (word_length leaves k) (rw sizes at h))

  pub leaf_long : 1 ≤ size → 8 < size → false ≡ leaf_allowed leaves n k
  unfolding leaf_allowed
  leaf_long l h = rw (le-leb 1 (word_length leaves k) (rw sizes at l), lt-leb (word_length leaves k) 8 (rw sizes at h))

  module _ (low : 1 ≤ size) (high : size ≤ 8) (expected : ℕ) (expects : expected ≡ expected_word_start leaves k) where
    pub leaf_elsewhere : (start ≡ expected → ⊥) → false ≡ leaf_allowed leaves n k
    unfolding leaf_allowed
    leaf_elsewhere h =
        rw (le-leb 1 (word_length leaves k) (rw sizes at low), le-leb (word_length leaves k) 8 (rw sizes at high), ne_eqb (word_start leaves k) (expected_word_start leaves k) (λ q. h (starts ∙ q ∙ sym expects)))

    module _ (follows : start ≡ expected) where
      pub leaf_past : n < start + size → false ≡ leaf_allowed leaves n k
      unfolding leaf_allowed
      leaf_past h =
          rw (le-leb 1 (word_length leaves k) (rw sizes at low), le-leb (word_length leaves k) 8 (rw sizes at high), eq-eqb _ _ (sym starts ∙ follows ∙ expects), lt-leb (word_end leaves k) n (omega arith))

      pub leaf_inner : start + size ≤ n → k + 1 < leaf_count leaves → true ≡ leaf_allowed leaves n k
      unfolding leaf_allowed
      leaf_inner h l =
          rw (le-leb 1 (word_length leaves k) (rw sizes at low), le-leb (word_length leaves k) 8 (rw sizes at high), eq-eqb _ _ (sym starts ∙ follows ∙ expects), le-leb (word_end leaves k) n (omega arith), lt-ltb _ _ l)

      pub leaf_last : start + size ≤ n → leaf_count leaves ≤ k + 1 → eqb (start + size) n ≡ leaf_allowed leaves n k
      unfolding leaf_allowed
      leaf_last h l =
          rw (le-leb 1 (word_length leaves k) (rw sizes at low), le-leb (word_length leaves k) 8 (rw sizes at high), eq-eqb _ _ (sym starts ∙ follows ∙ expects), le-leb (word_end leaves k) n (omega arith), le-ltb _ _ l, starts, sizes)

-- what the test says
pub record Placed (leaves : Section) (n k : ℕ) : Type 0 where
  pub some : 1 ≤ word_length leaves k
  pub short : word_length leaves k ≤ 8
  pub follows : word_start leaves k ≡ expected_word_start leaves k
  pub inside : word_end leaves k ≤ n
  pub last : leaf_count leaves ≤ k + 1 → word_end leaves k ≡ n

pub leaf_says : (leaves : Section) (n k : ℕ) → leaf_allowed leaves n k ≡ true → Placed leaves n k
unfolding leaf_allowed
leaf_says leaves n k t =
    let a : ((leb 1 (word_length leaves k) && leb (word_length leaves k) 8) ≡ true) × _ = both _ _ t in
    let b : (leb 1 (word_length leaves k) ≡ true) × (leb (word_length leaves k) 8 ≡ true) = both _ _ a.0 in
    let d : (eqb (word_start leaves k) (expected_word_start leaves k) ≡ true) × _ = both _ _ a.1 in
    let e : (leb (word_end leaves k) n ≡ true) × _ = both _ _ d.1 in
    record {
      some = leb-true _ _ b.0;
      short = leb-true _ _ b.1;
      follows = eqb-true _ _ d.0;
      inside = leb-true _ _ e.0;
      last = λ l. ⊎_elim (λ s. absurd (not_before l (ltb-true _ _ s))) (eqb-true _ _) (either _ _ e.1);
    }
  where
    not_before : leaf_count leaves ≤ k + 1 → k + 1 < leaf_count leaves → ⊥
    not_before l s = omega arith

pub follows_expected : (leaves : Section) (k : ℕ) → WordFollows leaves k ↔ (word_start leaves k ≡ expected_word_start leaves k)
unfolding expected_word_start
follows_expected leaves zero = (λ e. e, λ e. e)
follows_expected leaves (suc k) = (λ e. e, λ e. e)

pub leaf_fails : (leaves : Section) (words : List ℕ) (k : ℕ) → k < leaf_count leaves → leaf_allowed leaves (length words) k ≡ false → Broken9 leaves words k
unfolding leaf_allowed
leaf_fails leaves words k l t = (
  l,
  ⊎_elim (λ a. inl (⊎_elim (λ b. inl (leb-false _ _ b)) (λ b. inr (leb-false _ _ b)) (not_both _ _ a)))
      (λ a. inr (⊎_elim (λ b. inl (λ f. eqb-false _ _ b ((follows_expected leaves k).0 f))) (λ b. inr (⊎_elim (λ d. inl (leb-false _ _ d)) (λ d. inr (ends (neither _ _ d))) (not_both _ _ b))) (not_both _ _ a))) (not_both _ _ t),
)
  where
    ends : (ltb (k + 1) (leaf_count leaves) ≡ false) × (eqb (word_end leaves k) (length words) ≡ false) → (k + 1 ≡ leaf_count leaves) × ¬ (word_end leaves k ≡ length words)
    ends c = (omega (arith, ltb-false (k + 1) (leaf_count leaves) c.0), eqb-false _ _ c.1)

pub leaf_refuted : (leaves : Section) (words : List ℕ) (k : ℕ) → Placed leaves (length words) k → Broken9 leaves words k → ⊥
leaf_refuted leaves words k is (l, inl (inl h)) = omega (arith, is.some)
leaf_refuted leaves words k is (l, inl (inr h)) = omega (arith, is.short)
leaf_refuted leaves words k is (l, inr (inl h)) = h ((follows_expected leaves k).1 is.follows)
leaf_refuted leaves words k is (l, inr (inr (inl h))) = omega (arith, is.inside)
leaf_refuted leaves words k is (l, inr (inr (inr h))) = h.1 (is.last (omega (arith, h.0)))
