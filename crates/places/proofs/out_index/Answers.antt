-- The index of the digit that the input digit and the weights of two leaves give.
use Rattle.converted_digit.proofs.Size.{out_size}
use Rattle.ring.proofs.Columns.{some_parts}
use Rattle.layout_rules.specs.Section.{of_degree}
use Rattle.numeration.specs.Conversion.{out_digit}
use Rattle.numeration.specs.Elements.{elements}
use Rattle.ring.specs.Tests.{Within}
use Rattle.place_rules.specs.Place.{alphabet_index}
use Rattle.lists.specs.Found.{below}
use Rattle.digit_rules.specs.Record.{element_count}
use Rattle.ring.specs.Degree.{part_count}
use mathlib.Core.Path.{sym, ap, subst, ◌∙◌}
use Prim.Native.Nat.{◌^◌}
use mathlib.Core.List.{List}
use lib.IntN.{ℤ}
use Rattle.places.proofs.out_index.Goals as goal

pub index_of-requires : goal.index_of-requires
index_of-requires c =
    let a = c.args in
    let pre = c.requires in
    let below = c.weight_at in
    let own = c.weight_at-2 in
    let record-at = c.record_at in (
      subst (Within (2 ^ 42)) (sym c.out_digit-digit.ensures) (out_size (part_count a.degree) a.base record-at.result below.result own.result (some_parts a.degree).1 pre.sizes.0 record-at.ensures.within below.ensures.within own.ensures.within),
      pre.alphabet.0,
      pre.alphabet.1,
    )

pub returns : goal.returns
returns c =
    let a = c.args in
    let alphabet = of_degree a.degree a.alphabet.now in
    let lower = c.weight_at.ensures.weight in
    let own = c.weight_at-2.ensures.weight in
    let input = c.record_at.ensures.element in record {
      index = c.index_of.ensures.index ∙ ap (λ (x : List ℤ). below (element_count alphabet) (alphabet_index alphabet x))
          (c.out_digit-digit.ensures ∙ (λ i. out_digit (elements (part_count a.degree) a.base) (input i) (lower i) (own i)));
      slots = c.index_of.ensures.slots;
    }
