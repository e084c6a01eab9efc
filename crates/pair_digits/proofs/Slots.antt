-- Laws of the slots of alphabet digits.
use mathlib.Core.Path.{◌≡◌, sym, ap, ◌∙◌}
use mathlib.Core.Bool.{false}
use mathlib.Core.List.{List}
use Prim.Native.Nat.{ℕ, ◌<◌, ◌≤◌}
use native.Mathlib.Decide.{dec_lt}
use native.Mathlib.Omega.{arith}
use lib.IntN.{ℤ}
use lib.ListN.{get_or}
use borrow.Author.Tests.{lt-ltb, le-ltb, ltb-true}
use Rattle.layout_rules.specs.Section.{Section}
use Rattle.lists.proofs.Test.{same_outcome}
use Rattle.ring.specs.Tests.{same}
use Rattle.ring.proofs.Element.{same_refl, same→≡}
use Rattle.digit_rules.specs.Record.{record_at, element_count}
use Rattle.digit_rules.specs.Digits.{index_in}
use Rattle.digit_rules.proofs.Index.{index_is, index_first}
use Rattle.table_rules.specs.Pairs.{in_alphabet}
use Rattle.slots.specs.Slot.{slot_of}
use Rattle.pair_digits.specs.Slots.{Slotted}

module _ (alphabet : Section) (slots : List ℕ) (known : Slotted alphabet slots) (x : List ℤ) (k : ℕ) (at : k ≡ get_or slots (slot_of x) 0) where
  abbrev index : ℕ
  index = index_in alphabet (element_count alphabet) x

  found : index < element_count alphabet → k ≡ index
  found h =
      at ∙ ap (λ y. get_or slots (slot_of y) 0) (sym (index_is alphabet (element_count alphabet) x h)) ∙ known index h

  -- the slot's digit is past the last one, or to be compared
  pub slot_none : element_count alphabet ≤ k → false ≡ in_alphabet alphabet x
  unfolding in_alphabet
  slot_none past =
      sym (le-ltb index (element_count alphabet) (elim (dec_lt index (element_count alphabet)) [
        | yes h ↦ absurd (omega (arith, found h))
        | no h ↦ omega arith
      ]))

  pub slot_some : k < element_count alphabet → same (record_at alphabet k) x ≡ in_alphabet alphabet x
  unfolding in_alphabet
  slot_some there =
      same_outcome _ _
      (λ t. lt-ltb index (element_count alphabet) (omega (arith, index_first alphabet (element_count alphabet) x k (same→≡ _ _ t))))
      (λ t. let h = ltb-true index (element_count alphabet) t in ap (λ y. same y x) (ap (record_at alphabet) (found h) ∙ index_is alphabet (element_count alphabet) x h) ∙ same_refl x)

-- ---- the slot, by the sign of the place
