-- The sum of the part and the weight is the digit; the slots or the search say whether it is in the alphabet.
use Rattle.layout_rules.specs.Section.{of_degree}
use Rattle.table_rules.specs.Pairs.{in_alphabet}
use Rattle.digit_rules.specs.Digits.{index_in}
use Rattle.ring.proofs.Element.{within_plus, within_le}
use Rattle.ring.specs.Element.{plus}
use Rattle.ring.specs.Tests.{Within}
use lib.Dec.{ltb, lit≤}
use Rattle.lists.proofs.Found.{is_some_below}
use Rattle.std.specs.Prelude.{is_some}
use Prim.Native.Nat.{◌+◌, ◌^◌}
use mathlib.Core.Path.{sym, ap, subst, ◌∙◌}
use Rattle.pair_digits.proofs.gives_digit.Goals as goal

pub sum-digit-requires : goal.sum-digit-requires
sum-digit-requires c = (within_le (2 ^ 55 + 32768) (2 ^ 61) _ (lit≤ tt) c.requires.1, within_le 32768 (2 ^ 61) _ (lit≤ tt) c.weight.ensures.within)

pub in_slots-requires : goal.in_slots-requires
in_slots-requires c =
    let total = within_plus (2 ^ 55 + 32768) 32768 c.args.part c.weight.result c.requires.1 c.weight.ensures.within in
    (subst (Within (2 ^ 56)) (sym c.sum-digit.ensures) (within_le (2 ^ 55 + 32768 + 32768) (2 ^ 56) _ (lit≤ tt) total), rw c.in-Some.is at c.requires.0)

pub returns-in-Some : goal.returns-in-Some
returns-in-Some c = c.in_slots.ensures ∙ ap (in_alphabet (of_degree c.args.degree c.args.alphabet.now)) (c.sum-digit.ensures ∙ ap (plus c.args.part) c.weight.ensures.weight)

pub returns-in-None : goal.returns-in-None
unfolding in_alphabet
returns-in-None c =
    let alphabet = of_degree c.args.degree c.args.alphabet.now in
    let digit = c.sum-digit.ensures ∙ ap (plus c.args.part) c.weight.ensures.weight in
    let count = c.record_count-count.ensures in
    c.is_some.ensures ∙ ap is_some c.find.ensures ∙ is_some_below _ _ ∙ (λ i. ltb (index_in alphabet (count i) (digit i)) (count i))
