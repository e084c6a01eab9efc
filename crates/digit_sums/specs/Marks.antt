-- For helpers' contracts only: how quick looks at rule 8 and at 42 find an element among the input digits: by a slot for each element, and
-- links from an input digit to another one of its slot.
use Rattle.std.specs.Prelude.{◌≡◌, true, false, List, ℕ, zero, suc, get_or, ltb, ℤ}
use Rattle.layout_rules.specs.Section.{Section}
use Rattle.ring.specs.Tests.{same}
use Rattle.digit_rules.specs.Record.{record_at, element_count}
use Rattle.slots.specs.Slot.{slot_of}

-- the first input digit that equals x, of at most n from one on along the links; the count where there is none
unfoldable pub followed : Section → List ℕ → List ℤ → ℕ → ℕ → ℕ
followed inputs links x zero at = element_count inputs
followed inputs links x (suc n) at =
    elim (ltb at (element_count inputs)) [
      | true ↦ elim (same (record_at inputs at) x) [ true ↦ at | false ↦ followed inputs links x n (get_or links at 0) ]
      | false ↦ element_count inputs
    ]

-- the same from the first of the slot
unfoldable pub located : Section → List ℕ → List ℕ → List ℤ → ℕ
located inputs heads links x = followed inputs links x 136 (get_or heads (slot_of x) 0)

-- marks at input indexes: each input digit that is marked is found at its own index
pub record Marked (inputs : Section) (find : List ℤ → ℕ) (marks : List ℕ) : Type 0 where
  pub marked : (k : ℕ) → ¬ (get_or marks k 0 ≡ 0) → find (record_at inputs k) ≡ k
