-- A digit in the element's slot that is the element is its first index; else the search says it, and what it found may stand there.
use native.Mathlib.Omega.{arith}
use Prim.Native.Nat.{ℕ, ◌^◌, ◌<◌}
use lib.IntN.{ℤ}
use mathlib.Core.List.{List}
use Rattle.std.specs.Prelude.{Some}
use Rattle.lists.specs.Found.{below}
use Rattle.lists.proofs.Found.{below_some, some_below}
use lib.Dec.{lit≤}
use mathlib.Core.Path.{◌≡◌, sym, ap, ◌∙◌}
use Rattle.layout_rules.specs.Section.{Section, of_degree}
use Rattle.digit_rules.specs.Record.{record_at, element_count}
use Rattle.digit_rules.specs.Digits.{index_in}
use Rattle.place_rules.specs.Place.{alphabet_index}
use Rattle.ring.proofs.Element.{same→≡, within_le}
use Rattle.places.proofs.Tried.{first_hit, firsts_more}
use Rattle.places.proofs.index_of.Goals as goal

pub slot_of-slot-requires : goal.slot_of-slot-requires
slot_of-slot-requires c = within_le (2 ^ 42) (2 ^ 56) _ (lit≤ tt) c.requires.0

found_index : (alphabet : Section) (x : List ℤ) (size index : ℕ) → size ≡ element_count alphabet → below size (index_in alphabet size x) ≡ Some index → (index ≡ alphabet_index alphabet x) × (index < element_count alphabet)
found_index alphabet x size index count hit =
    let (at, there) = some_below size (index_in alphabet size x) index hit in
    (at ∙ ap (λ (n : ℕ). index_in alphabet n x) count, omega arith)

pub returns-then-equal-clause-index : goal.returns-then-equal-clause-index
returns-then-equal-clause-index c =
    let a = c.args in
    let alphabet = of_degree a.degree a.alphabet.now in
    let size = c.record_count-size.ensures in
    let last = c.from-last.ensures in
    let same = ap (record_at alphabet) (sym last) ∙ sym c.record_at.ensures.element ∙ same→≡ _ _ (sym c.equal.ensures ∙ c.if-equal.true) in
    let hit : c.from-last.result ≡ alphabet_index alphabet a.x = last ∙ first_hit alphabet a.x a.slots.now c.requires.2 c.slot_of-slot.result (omega (arith, last, c.if-last-size.true, size)) same in
    ap Some hit ∙ below_some (element_count alphabet) (alphabet_index alphabet a.x) (omega (arith, hit, c.if-last-size.true, size))

pub overflow_cast-slots : goal.overflow_cast-slots
overflow_cast-slots c =
    let alphabet = of_degree c.args.degree c.args.alphabet.now in
    let (_, there) = found_index alphabet c.args.x _ c.in_ok-index.index c.record_count-size.ensures (sym c.find.ensures ∙ c.in_ok-index.was) in
    omega (arith, there, c.requires.1)

pub returns-clause-slots : goal.returns-clause-slots
returns-clause-slots c =
    let alphabet = of_degree c.args.degree c.args.alphabet.now in
    let (at, there) = found_index alphabet c.args.x _ c.in_ok-index.index c.record_count-size.ensures (sym c.find.ensures ∙ c.in_ok-index.was) in
    firsts_more alphabet c.args.x c.args.slots.now c.requires.2 c.slot_of-slot.result c.in_ok-index.index at there
