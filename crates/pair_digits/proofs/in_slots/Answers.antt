-- Only the digit in the element's slot can be the element.
use Rattle.layout_rules.specs.Section.{of_degree}
use Rattle.pair_digits.proofs.Slots.{slot_none, slot_some}
use Rattle.ring.specs.Tests.{same}
use lib.ListN.{get_or}
use native.Mathlib.Omega.{arith}
use borrow.Author.Tests.{le-ltb}
use Prim.Native.Nat.{ℕ}
use mathlib.Core.Path.{ap, ◌∙◌}
use Rattle.pair_digits.proofs.in_slots.Goals as goal

pub returns-else-digit-record_count : goal.returns-else-digit-record_count
returns-else-digit-record_count c =
    let at = c.from-digit.ensures ∙ ap (λ (i : ℕ). get_or c.args.slots.now i 0) c.slot_of-slot.ensures.slot in
    le-ltb _ _ c.if-digit-record_count.false ∙ slot_none (of_degree c.args.degree c.args.alphabet.now) c.args.slots.now c.requires.1 c.args.x c.from-digit.result at (omega (arith, c.record_count.ensures, c.if-digit-record_count.false))

pub returns-then-digit-record_count : goal.returns-then-digit-record_count
returns-then-digit-record_count c =
    let a = c.args in
    let slots = a.slots in
    let x = a.x in
    let at = c.from-digit.ensures ∙ ap (λ (i : ℕ). get_or slots.now i 0) c.slot_of-slot.ensures.slot in
    c.equal.ensures ∙ ap (λ y. same y x) c.record_at.ensures.element ∙ slot_some (of_degree a.degree a.alphabet.now) slots.now c.requires.1 x c.from-digit.result at (omega (arith, c.record_count.ensures, c.if-digit-record_count.true))
