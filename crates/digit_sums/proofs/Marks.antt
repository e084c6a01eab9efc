-- The quick looks at rule 8 and at 42: where every sum is found, and each input digit at its own index, 8 is kept; where every difference
-- is found, 42.
use mathlib.Core.Path.{◌≡◌, refl, sym, ap, subst, ◌∙◌}
use mathlib.Core.Bool.{Bool, true, false}
use mathlib.Core.List.{List}
use mathlib.Core.Logic.{⊎_elim}
use Prim.Native.Nat.{ℕ, zero, suc, ◌+◌, ◌-◌, ◌<◌, ◌≤◌}
use native.Mathlib.Decide.{dec_lt, ℕ_discrete}
use native.Mathlib.Nat.{le_antisymm}
use native.Mathlib.Omega.{arith}
use native.Mathlib.Numerals.{add-one}
use lib.ListN.{get_or, set, replicate}
use lib.Seq.{get_or-set_other}
use lib.IntN.{ℤ}
use borrow.Author.Tests.{lt-ltb, le-ltb}
use Rattle.layout_rules.specs.Section.{Section}
use Rattle.lists.proofs.Scan.{scan_all, every_sound}
use Rattle.lists.proofs.Test.{clash}
use Rattle.faults.specs.Check.{none}
use Rattle.faults.proofs.Check.{judge_kept}
use Rattle.ring.specs.declared.Operation.{Operation}
use Rattle.ring.specs.declared.Operation.TheVariants.{Plus, Minus}
use Rattle.ring.specs.Operation.{combine}
use Rattle.ring.specs.Tests.{same}
use Rattle.ring.proofs.Element.{same→≡}
use Rattle.digit_rules.specs.Record.{record_at, element_count}
use Rattle.digit_rules.specs.Digits.{index_in, record_allowed, pair_index, pair_listed, pairs_listed, all_pairs_listed, inputs_allowed, input_check, operation_check}
use Rattle.digit_rules.specs.Broken.{Broken7}
use Rattle.slots.specs.Slot.{slot_of}
use Rattle.digit_sums.specs.Marks.{followed, located, Marked}
use Rattle.digit_rules.proofs.Index.{index_first}
use Rattle.digit_rules.proofs.Allowed.{at_record, after_records, differences_kept}
use Rattle.digit_rules.proofs.Sums.{record_fails}

not_failed : (b : Bool) → (b ≡ false → ⊥) → b ≡ true
not_failed true h = refl
not_failed false h = absurd (h refl)

-- what is found along the links equals the element
pub follow_out : (inputs : Section) (links : List ℕ) (x : List ℤ) (n at : ℕ) → element_count inputs ≤ at → followed inputs links x n at ≡ element_count inputs
unfolding followed
follow_out inputs links x zero at h = refl
follow_out inputs links x (suc n) at h = rw (le-ltb at (element_count inputs) h, followed)

follow_hit : (inputs : Section) (links : List ℕ) (x : List ℤ) (n at : ℕ) → at < element_count inputs → same (record_at inputs at) x ≡ true → followed inputs links x (suc n) at ≡ at
unfolding followed
follow_hit inputs links x n at h e = rw (lt-ltb at (element_count inputs) h, e, followed)

follow_step : (inputs : Section) (links : List ℕ) (x : List ℤ) (n at : ℕ) → at < element_count inputs → same (record_at inputs at) x ≡ false → followed inputs links x (suc n) at ≡ followed inputs links x n (get_or links at 0)
unfolding followed
follow_step inputs links x n at h e = rw (lt-ltb at (element_count inputs) h, e, followed)

-- for a loop that has n links left
one_less : (n : ℕ) → 0 < n → n ≡ suc (n - 1)
one_less n h = omega arith

module _ (inputs : Section) (links : List ℕ) (x y : List ℤ) (n at : ℕ) (some : 0 < n) (inside : at < element_count inputs) (reads : y ≡ record_at inputs at) where
  pub follow_here : same y x ≡ true → followed inputs links x n at ≡ at
  follow_here e = ap (λ n. followed inputs links x n at) (one_less n some) ∙ follow_hit inputs links x (n - 1) at inside (ap (λ z. same z x) (sym reads) ∙ e)

  pub follow_on : (left next : ℕ) → n ≡ left + 1 → next ≡ get_or links at 0 → same y x ≡ false → followed inputs links x n at ≡ followed inputs links x left next
  follow_on left next one is e =
      ap (λ n. followed inputs links x n at) (one ∙ add-one left) ∙ follow_step inputs links x left at inside (ap (λ z. same z x) (sym reads) ∙ e) ∙ ap (followed inputs links x left) (sym is)

pub follow_end : (inputs : Section) (links : List ℕ) (x : List ℤ) (n at : ℕ) → n ≤ 0 → followed inputs links x n at ≡ element_count inputs
follow_end inputs links x n at h = ap (λ n. followed inputs links x n at) (le_antisymm {n = n} {m = 0} h (omega arith)) ∙ (unfold followed in refl)

follow_is : (inputs : Section) (links : List ℕ) (x : List ℤ) (n at : ℕ) → followed inputs links x n at < element_count inputs → record_at inputs (followed inputs links x n at) ≡ x
follow_is inputs links x zero at = unfold followed in λ h. absurd (omega arith)
follow_is inputs links x (suc n) at =
    elim (dec_lt at (element_count inputs)) [
      | yes l ↦ by_outcome l (follow_is inputs links x n (get_or links at 0)) (same (record_at inputs at) x) refl
      | no l ↦ rw (follow_out inputs links x (suc n) at (omega arith)) (λ h. absurd (omega arith))
    ]
  where
    by_outcome : at < element_count inputs → (followed inputs links x n (get_or links at 0) < element_count inputs → record_at inputs (followed inputs links x n (get_or links at 0)) ≡ x) → (b : Bool) → same (record_at inputs at) x ≡ b → followed inputs links x (suc n) at < element_count inputs → record_at inputs (followed inputs links x (suc n) at) ≡ x
    by_outcome l next true e = rw (follow_hit inputs links x n at l e) (λ h. same→≡ _ _ e)
    by_outcome l next false e = rw (follow_step inputs links x n at l e) next

-- a search that finds what it is given
abbrev pub Finds : Section → (List ℤ → ℕ) → Type 0
Finds inputs find = (x : List ℤ) → find x < element_count inputs → record_at inputs (find x) ≡ x

pub located_finds : (inputs : Section) (heads links : List ℕ) → Finds inputs (located inputs heads links)
unfolding located
located_finds inputs heads links x h = follow_is inputs links x 136 (get_or heads (slot_of x) 0) h

module _ (inputs : Section) (find : List ℤ → ℕ) where
  -- no marks, and one more, where something was found
  pub none_marked : (n : ℕ) → Marked inputs find (replicate n 0)
  none_marked n = record { marked = λ k h. absurd (h (blank n k)) }
    where
      blank : (n k : ℕ) → get_or {A = ℕ} (replicate n 0) k 0 ≡ 0
      blank zero k = refl
      blank (suc n) zero = refl
      blank (suc n) (suc k) = blank n k

  -- each input digit so far is found at its own index
  abbrev pub FoundBefore : ℕ → Type 0
  FoundBefore n = (k : ℕ) → k < n → find (record_at inputs k) ≡ k

  pub found_next : (n : ℕ) → FoundBefore n → find (record_at inputs n) ≡ n → FoundBefore (n + 1)
  found_next n before here k h =
      elim (dec_lt k n) [
        | yes l ↦ before k l
        | no l ↦ subst (λ (j : ℕ). find (record_at inputs j) ≡ j) (le_antisymm {n = n} {m = k} (omega arith) (omega arith)) here
      ]

  module _ (finds : Finds inputs find) where
    pub one_marked : (marks : List ℕ) (x : List ℤ) (found : ℕ) → Marked inputs find marks → found ≡ find x → found < element_count inputs → Marked inputs find (set marks found 1)
    one_marked marks x found before is l =
        record { marked = λ k h. elim (ℕ_discrete k found) [ yes e ↦ subst (λ (j : ℕ). find (record_at inputs j) ≡ j) (sym e) own | no e ↦ before.marked k (λ z. h (get_or-set_other marks found k 1 0 e ∙ z)) ] }
      where
        own : find (record_at inputs found) ≡ found
        own = ap find (ap (record_at inputs) is ∙ finds x (omega arith)) ∙ sym is

    -- what is found is listed
    pub found_listed : (op : Operation) (alphabet : Section) (i j found : ℕ) (x : List ℤ) → x ≡ combine op (record_at alphabet i) (record_at alphabet j) → found ≡ find x → found < element_count inputs → pair_listed op alphabet inputs i j ≡ true
    unfolding pair_listed pair_index
    found_listed op alphabet i j found x made is h =
        let y = combine op (record_at alphabet i) (record_at alphabet j) in
        lt-ltb (index_in inputs (element_count inputs) y) (element_count inputs) (omega (arith, index_first inputs (element_count inputs) y found (ap (record_at inputs) is ∙ finds x (omega arith) ∙ made)))

  -- digits that are found at their own indexes are all different; zero first, and every sum listed, the rule is kept
  module _ (starts : record_allowed inputs 0 ≡ true) (found : FoundBefore (element_count inputs)) where
    found_allowed : (k : ℕ) → k < element_count inputs → record_allowed inputs k ≡ true
    found_allowed k l = not_failed (record_allowed inputs k) refuted
      where
        refuted : record_allowed inputs k ≡ false → ⊥
        refuted t =
            let b : Broken7 inputs k = record_fails inputs k l t in
            ⊎_elim (λ z. clash starts (ap (record_allowed inputs) (sym z.0) ∙ t)) (λ r. omega (arith, r.1, sym (found k l) ∙ ap find r.2 ∙ found r.0 (omega (arith, r.1)))) b.1

    all_kept : (alphabet : Section) → all_pairs_listed Plus alphabet inputs ≡ true → none ≡ input_check alphabet inputs
    unfolding input_check
    all_kept alphabet listed =
        sym (judge_kept 8 (λ k. k) (inputs_allowed alphabet inputs) (element_count inputs + 1) _ refl (omega (arith, scan_all (inputs_allowed alphabet inputs) 0 (element_count inputs + 1) passes)))
      where
        passes : (k : ℕ) → 0 ≤ k → k < 0 + (element_count inputs + 1) → inputs_allowed alphabet inputs k ≡ true
        passes k low high =
            elim (dec_lt k (element_count inputs)) [
              | yes l ↦ at_record alphabet inputs k l ∙ found_allowed k l
              | no l ↦ after_records alphabet inputs k (omega arith) ∙ listed
            ]

pub located_kept : (inputs : Section) (heads links : List ℕ) → record_allowed inputs 0 ≡ true → FoundBefore inputs (located inputs heads links) (element_count inputs) → (alphabet : Section) → all_pairs_listed Plus alphabet inputs ≡ true → none ≡ input_check alphabet inputs
located_kept inputs heads links = all_kept inputs (located inputs heads links)

-- every difference listed, 42 is kept
pub differences_listed : (alphabet inputs : Section) → all_pairs_listed Minus alphabet inputs ≡ true → none ≡ operation_check Minus alphabet inputs
unfolding all_pairs_listed
differences_listed alphabet inputs t =
    differences_kept alphabet inputs _ _ refl refl (omega (arith, scan_all (pairs_listed Minus alphabet inputs) 0 (element_count alphabet) (every_sound (pairs_listed Minus alphabet inputs) 0 (element_count alphabet) t)))
