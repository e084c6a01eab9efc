-- Changes of a row at two places that are at least h apart: whether the one alters a converted digit doesn't depend on the other.
use mathlib.Core.Path.{◌≡◌, sym, ap, ap₂, ◌∙◌}
use mathlib.Core.List.{List}
use mathlib.Core.Logic.{◌⊎◌, inl, inr}
use Prim.Native.Nat.{ℕ, suc, ◌+◌, ◌<◌, ◌≤◌}
use native.Mathlib.Decide.{dec_le}
use native.Mathlib.Omega.{arith}
use lib.ListN.{get_or}
use Rattle.numeration.specs.Group.{Operations}
use Rattle.numeration.specs.Code.{Code}
use Rattle.numeration.specs.LeafOf.{depth}
use Rattle.numeration.specs.Conversion.{out_digit, weight_into, weight_at, convert}
use Rattle.numeration.specs.Laws.{AdditiveGroup, InGroup}
use Rattle.numeration.proofs.Sums.{sum_cancel}
use Rattle.numeration.proofs.Windows.{weight_into_ext, convert_ext}

-- two rows that agree at every place but one
abbrev pub AllBut : ℕ → List ℕ → List ℕ → Type 0
AllBut p r s = (i : ℕ) → (i ≡ p → ⊥) → get_or r i 0 ≡ get_or s i 0

module _ {A : Type 0} (o : Operations A) (Element : A → Type 0) (g : AdditiveGroup o Element) where
  -- w + q − β·q' is w − β·q' plus q
  out_parts : {x y z : A} → Element x → Element y → Element z → out_digit o x y z ≡ o.sum (o.difference x (o.base z)) y
  unfolding out_digit
  out_parts {x} {y} {z} a b c =
      let bz : Element (o.base z) = g.element_base c in
      let own : Element (o.difference x (o.base z)) = g.element_difference a bz in
      sum_cancel o Element g (g.element_difference (g.element_sum a b) bz) (g.element_sum own b) bz
      (g.cancel (g.element_sum a b) bz ∙ sym (g.assoc own b bz ∙ ap (o.sum (o.difference x (o.base z))) (g.comm b bz) ∙ sym (g.assoc own bz b) ∙ ap (λ (t : A). o.sum t y) (g.cancel a bz)))

module _ {A : Type 0} (o : Operations A) (Element : A → Type 0) (g : AdditiveGroup o Element) (input : ℕ → A) (c : Code A) (in_group : InGroup o Element input c) where
  -- what z(j) has of its own place, w(j) − β·q(j)
  own : List ℕ → ℕ → A
  own row j = o.difference (input (get_or row j 0)) (o.base (weight_at c row j))

  element_own : (row : List ℕ) (j : ℕ) → Element (own row j)
  unfolding own weight_at weight_into
  element_own row j = g.element_difference (in_group.element_input _) (g.element_base (in_group.element_weight _))

  element_below : (row : List ℕ) (j : ℕ) → Element (weight_into c row j)
  unfolding weight_into
  element_below row j = in_group.element_weight _

  -- it reads that place and the h − 1 places below it
  own_ext : (r s : List ℕ) (j : ℕ) → 0 < depth c → ((i : ℕ) → i ≤ j → j < i + depth c → get_or r i 0 ≡ get_or s i 0) → own r j ≡ own s j
  unfolding own weight_at
  own_ext r s j some same =
      ap₂ (λ (w q : A). o.difference w (o.base q)) (ap input (same j (omega arith) (omega arith))) (weight_into_ext c r s (suc j) (λ i h l. same i (omega arith) (omega arith)))

  own_first : (row : List ℕ) (j : ℕ) → convert o input c row j ≡ o.sum (own row j) (weight_into c row j)
  unfolding convert own weight_at weight_into
  own_first row j = out_parts o Element g (in_group.element_input _) (in_group.element_weight _) (in_group.element_weight _)

  below_first : (row : List ℕ) (j : ℕ) → convert o input c row j ≡ o.sum (weight_into c row j) (own row j)
  below_first row j = own_first row j ∙ g.comm (element_own row j) (element_below row j)

  -- a row with the digit at p changed, with that at q changed, and with both
  module _ (some : 0 < depth c) (row one other both : List ℕ) (p q : ℕ) (one_is : AllBut p one row) (other_is : AllBut q other row) (both_one : AllBut q both one) (both_other : AllBut p both other)
      (apart : (p + depth c ≤ q) ⊎ (q + depth c ≤ p)) where
    -- where z(j) is the sum of a part that the digit at q leaves and one that the digit at p leaves
    by_parts : (j : ℕ) (part rest : List ℕ → A) → ((r : List ℕ) → Element (part r)) → ((r : List ℕ) → Element (rest r)) → ((r : List ℕ) → convert o input c r j ≡ o.sum (part r) (rest r))
        → ((r s : List ℕ) → AllBut q r s → part r ≡ part s) → ((r s : List ℕ) → AllBut p r s → rest r ≡ rest s) → convert o input c row j ≡ convert o input c one j → convert o input c other j ≡ convert o input c both j
    by_parts j part rest element also parts left kept same =
        let equal : part row ≡ part one = sum_cancel o Element g (element row) (element one) (also row) (sym (parts row) ∙ same ∙ parts one ∙ ap (o.sum (part one)) (kept one row one_is)) in
        parts other ∙ ap₂ o.sum (left other row other_is ∙ equal ∙ sym (left both one both_one)) (sym (kept both other both_other)) ∙ sym (parts both)

    pub change_seen : (j : ℕ) → convert o input c row j ≡ convert o input c one j → convert o input c other j ≡ convert o input c both j
    change_seen j same =
        elim (dec_le p j) [
          | yes low ↦ elim (dec_le j (p + depth c)) [
            | yes high ↦ elim (dec_le q j) [
              | yes from ↦ elim (dec_le j (q + depth c)) [ yes to ↦ shared apart low high from to | no past ↦ elsewhere (λ a b. past b) ]
              | no below ↦ elsewhere (λ a b. below a)
            ]
            | no past ↦ unseen (λ a b. past b)
          ]
          | no below ↦ unseen (λ a b. below a)
        ]
      where
        -- the change at p doesn't reach the place
        unseen : (p ≤ j → j ≤ p + depth c → ⊥) → convert o input c other j ≡ convert o input c both j
        unseen out = convert_ext o input c other both j (λ i h l. sym (both_other i (λ e. out (omega (arith, e)) (omega (arith, e)))))

        -- that at q doesn't
        elsewhere : (q ≤ j → j ≤ q + depth c → ⊥) → convert o input c other j ≡ convert o input c both j
        elsewhere out =
            convert_ext o input c other row j (λ i h l. other_is i (λ e. out (omega (arith, e)) (omega (arith, e))))
            ∙ same
            ∙ convert_ext o input c one both j (λ i h l. sym (both_one i (λ e. out (omega (arith, e)) (omega (arith, e)))))

        -- both do, at the upper one's own place: it leaves what that place gets from below, and the lower one what it has of its own
        shared : (p + depth c ≤ q) ⊎ (q + depth c ≤ p) → p ≤ j → j ≤ p + depth c → q ≤ j → j ≤ q + depth c → convert o input c other j ≡ convert o input c both j
        shared (inl far) low high from to =
            by_parts j (λ r. weight_into c r j) (λ r. own r j) (λ r. element_below r j) (λ r. element_own r j) (λ r. below_first r j) (λ r s but. weight_into_ext c r s j (λ i h l. but i (λ e. omega (arith, e)))) (λ r s but. own_ext r s j some (λ i h l. but i (λ e. omega (arith, e)))) same
        shared (inr far) low high from to =
            by_parts j (λ r. own r j) (λ r. weight_into c r j) (λ r. element_own r j) (λ r. element_below r j) (λ r. own_first r j) (λ r s but. own_ext r s j some (λ i h l. but i (λ e. omega (arith, e)))) (λ r s but. weight_into_ext c r s j (λ i h l. but i (λ e. omega (arith, e)))) same
