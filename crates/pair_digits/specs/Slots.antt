-- For helpers' contracts only: slots for the alphabet digits: a digit that has one of its own is found at once.
use Rattle.std.specs.Prelude.{◌≡◌, List, ℕ, ◌<◌, get_or}
use Rattle.layout_rules.specs.Section.{Section}
use Rattle.digit_rules.specs.Record.{record_at, element_count}
use Rattle.slots.specs.Slot.{slot_of}

-- the slot of each of the first n alphabet digits has its number
abbrev pub SlottedBefore : Section → List ℕ → ℕ → Type 0
SlottedBefore alphabet slots n = (k : ℕ) → k < n → get_or slots (slot_of (record_at alphabet k)) 0 ≡ k

abbrev pub Slotted : Section → List ℕ → Type 0
Slotted alphabet slots = SlottedBefore alphabet slots (element_count alphabet)
