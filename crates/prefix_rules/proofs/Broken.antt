-- Demand 1 for rules 9 to 13: the stage finds the first broken rule, as the plain statements have it, and nothing else.
use mathlib.Core.Path.{◌≡◌, refl, sym, ap, ◌∙◌}
use mathlib.Core.Bool.{Bool, true, false}
use mathlib.Core.List.{List, [], ◌∷◌}
use mathlib.Core.Logic.{inl, inr}
use Prim.Native.Nat.{ℕ, suc, ◌+◌, ◌-◌, ◌<◌, ◌≤◌}
use native.Mathlib.Decide.{dec_le}
use native.Mathlib.Nat.{zero-add}
use native.Mathlib.Numerals.{add-one}
use native.Mathlib.Omega.{arith}
use lib.ListN.{length, get_or}
use borrow.Author.Tests.{ltb-true, ltb-false}
use Rattle.ring.specs.Padded.{width}
use Rattle.lists.specs.Span.{span}
use Rattle.lists.proofs.Span.{length_span, get_d_span}
use Rattle.lists.proofs.Test.{clash, not_passed}
use Rattle.faults.specs.Rule.{Kept, rule}
use Rattle.faults.specs.Exact.{Exact}
use Rattle.faults.proofs.Rule.{Decided, exact, judge_decided, places_decided, then_decided}
use Rattle.ring.specs.Element.{zeros}
use Rattle.ring.specs.Tests.{same}
use Rattle.ring.proofs.Element.{same_refl, same→≡}
use Rattle.layout_rules.specs.Section.{Section}
use Rattle.numeration.specs.Code.{Code, Inputs, Precedes, HasLeaf}
use Rattle.numeration.specs.Prefix.{Below}
use Rattle.numeration.proofs.Leaves.{precedes_sound, precedes_complete, get_d_inputs}
use Rattle.leaf_rules.specs.Leaf.{leaf_count, word_length, weight_of, code_of}
use Rattle.prefix_rules.specs.Coverage.{covered}
use Rattle.prefix_rules.specs.Check.{leaf_allowed, place_check, word_index_allowed, word_index_check, order_allowed, order_check, cover_check, zero_check, leaf_check}
use Rattle.prefix_rules.specs.Broken.{Broken9, Broken10, Broken11, Broken12, Broken13, leaf_rules}
use Rattle.prefix_rules.proofs.Place.{leaf_says, leaf_fails, leaf_refuted}
use Rattle.prefix_rules.proofs.Strings.{covered_sound, covered_complete}

module _ {A : Type 0} (c : Code A) (m : ℕ) (some : 0 < m) where
  -- rule 12's test on strings of eight
  pub strings_say : covered c m 8 0 0 c.leaves ≡ true → (s : List ℕ) → Inputs m s → HasLeaf c (λ i. get_or s i 0)
  strings_say t s inputs =
      covered_sound c m 8 0 0 c.leaves (omega arith) t (λ i. get_or s i 0) (get_d_inputs m s some inputs) (λ k l h i none. absurd (nothing i none))
    where
      nothing : (i : ℕ) → i < 0 → ⊥
      nothing i h = omega arith

  strings_fail : ((k : ℕ) → suc k < c.leaves → Precedes c k (suc k)) → ((k : ℕ) → k < c.leaves → c.size k ≤ 8) → covered c m 8 0 0 c.leaves ≡ false
      → (s : List ℕ) × (length s ≡ 8) × Inputs m s × ¬ (HasLeaf c (λ i. get_or s i 0))
  strings_fail ordered short t = cut (covered_complete c m ordered short some t)
    where
      read : (w : ℕ → ℕ) (i : ℕ) → i < 8 → get_or (span w 0 8) i 0 ≡ w i
      read w i h = get_d_span w 0 8 i 0 h ∙ ap w (zero-add i)

      cut : (w : ℕ → ℕ) × Below m w × ¬ (HasLeaf c w) → (s : List ℕ) × (length s ≡ 8) × Inputs m s × ¬ (HasLeaf c (λ i. get_or s i 0))
      cut (w, below, none) = (span w 0 8, length_span w 0 8, (λ i h. rw (read w i (omega (arith, length_span w 0 8))) (below i)), λ l. let (k, leaf, b) = l in none (k, leaf, λ i h. b i h ∙ read w i (omega (arith, short k leaf))))

module _ (leaves : Section) (words : List ℕ) where
  -- what rule 11's test says
  pub order_says : (k : ℕ) → order_allowed leaves words k ≡ true → Precedes (code_of leaves words) k (suc k)
  order_says k t = rw (add-one k) at (precedes_sound (code_of leaves words) k (k + 1) t)

  pub order_holds : (k : ℕ) → Precedes (code_of leaves words) k (suc k) → order_allowed leaves words k ≡ true
  order_holds k h = precedes_complete (code_of leaves words) k (k + 1) (rw (add-one k) h)

module _ (leaves : Section) (words : List ℕ) (m : ℕ) where
  -- rule 9
  place_decided : Decided (rule 9 (Broken9 leaves words) ∷ []) (place_check leaves words)
  unfolding place_check
  place_decided =
      places_decided (rule 9 (Broken9 leaves words)) (leaf_allowed leaves (length words)) (leaf_count leaves) (omega arith)
      (λ p b. (b.0, λ t. leaf_refuted leaves words p (leaf_says leaves (length words) p t) b)) (leaf_fails leaves words)

  -- rule 10
  index_decided : Decided (rule 10 (Broken10 words m) ∷ []) (word_index_check words m)
  unfolding word_index_check
  index_decided =
      places_decided (rule 10 (Broken10 words m)) (word_index_allowed words m) (length words) (omega arith)
      (λ p b. (b.0, λ t. b.1 (ltb-true _ _ t))) (λ p l t. (l, λ h. omega (arith, ltb-false (get_or words p 0) m t)))

  -- where rules 9 and 11 are kept
  short_kept : Kept (rule 9 (Broken9 leaves words)) → (k : ℕ) → k < leaf_count leaves → word_length leaves k ≤ 8
  short_kept kept k l = elim (dec_le (word_length leaves k) 8) [ yes h ↦ h | no h ↦ absurd (kept k (l, inl (inr (omega arith)))) ]

  order_kept : Kept (rule 11 (Broken11 leaves words)) → (k : ℕ) → suc k < leaf_count leaves → Precedes (code_of leaves words) k (suc k)
  order_kept kept k l = go (order_allowed leaves words k) refl
    where
      go : (b : Bool) → order_allowed leaves words k ≡ b → Precedes (code_of leaves words) k (suc k)
      go true e = order_says leaves words k e
      go false e = absurd (kept (suc k) (k, refl, l, λ h. clash (order_holds leaves words k h) e))

  -- rule 11
  order_decided : Decided (rule 11 (Broken11 leaves words) ∷ []) (order_check leaves words)
  unfolding order_check
  order_decided =
      judge_decided (rule 11 (Broken11 leaves words)) (λ k. k + 1) (order_allowed leaves words) (leaf_count leaves - 1) (omega arith) (λ j k h l. omega arith) (λ p. (
        λ b. (b.0, omega (arith, b.2), b.1 ∙ sym (add-one b.0), not_passed _ (λ t. b.3 (order_says leaves words b.0 t))),
        λ w. (w.0, w.2 ∙ add-one w.0, omega (arith, w.1), λ h. clash (order_holds leaves words w.0 h) w.3),
      ))

  -- rule 12, where the words are in place and in order
  cover_decided : 0 < m → Kept (rule 9 (Broken9 leaves words)) → Kept (rule 11 (Broken11 leaves words)) → Decided (rule 12 (Broken12 leaves words m) ∷ []) (cover_check leaves words m)
  unfolding cover_check
  cover_decided some nine eleven =
      places_decided (rule 12 (Broken12 leaves words m)) (λ _. covered (code_of leaves words) m 8 0 0 (leaf_count leaves)) 1 (omega arith)
      (λ p b. (omega (arith, b.0), λ t. b.1.3 (strings_say (code_of leaves words) m some t b.1.0 b.1.2)))
      (λ p l t. (omega arith, strings_fail (code_of leaves words) m some (order_kept eleven) (short_kept nine) t))

  -- rule 13
  zero_decided : Decided (rule 13 (Broken13 leaves) ∷ []) (zero_check leaves)
  unfolding zero_check
  zero_decided =
      places_decided (rule 13 (Broken13 leaves)) (λ _. same (weight_of leaves 0) (zeros width)) 1 (omega arith)
      (λ p b. (omega (arith, b.0), λ t. b.1 (same→≡ _ _ t))) (λ p l t. (omega arith, λ e. clash (ap (λ x. same x (zeros width)) e ∙ same_refl (zeros width)) t))

  pub leaves_decided : 0 < m → Decided (leaf_rules leaves words m) (leaf_check leaves words m)
  unfolding leaf_check
  leaves_decided some =
      then_decided _ _ _ _ place_decided
      (λ nine. then_decided _ _ _ _ index_decided
      (λ _. then_decided _ _ _ _ order_decided (λ eleven. then_decided _ _ _ _ (cover_decided some nine.0 eleven.0) (λ _. zero_decided))))

  -- Rules 9 to 13, where there is an input digit
  pub leaves_exact : 0 < m → Exact (leaf_rules leaves words m) (leaf_check leaves words m)
  leaves_exact some = exact _ _ (leaves_decided some)
