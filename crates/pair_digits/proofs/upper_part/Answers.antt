-- The first digit minus the base times the weight, each within its size.
use Rattle.layout_rules.specs.Section.{of_degree}
use Rattle.digit_rules.specs.Record.{record_at, element_count}
use Rattle.ring.proofs.Element.{within_minus, within_le}
use Rattle.ring.specs.Degree.{part_count}
use Rattle.ring.specs.Padded.{padded_times}
use Rattle.ring.specs.Element.{minus}
use Rattle.ring.specs.Tests.{Within}
use lib.ListN.{get_or}
use lib.Dec.{lit≤}
use Prim.Native.Nat.{ℕ, ◌+◌, ◌^◌, ◌<◌}
use mathlib.Core.Path.{sym, ap, subst, ◌∙◌}
use Rattle.pair_digits.proofs.upper_part.Goals as goal

pub record_at-requires : goal.record_at-requires
record_at-requires c =
    subst (λ (k : ℕ). k < element_count (of_degree c.args.degree c.args.inputs.now)) (sym (c.byte_at-first.ensures ∙ ap (λ w. get_or w 0 0) c.word.ensures)) c.requires.1

pub times_base-requires : goal.times_base-requires
times_base-requires c = (c.requires.0, within_le 32768 (2 ^ 32) _ (lit≤ tt) c.weight.ensures.within)

pub difference-requires : goal.difference-requires
difference-requires c =
    (within_le 32768 (2 ^ 61) _ (lit≤ tt) c.record_at.ensures.within, within_le (2 ^ 55) (2 ^ 61) _ (lit≤ tt) c.times_base.ensures.within)

pub returns : goal.returns
returns c =
    let first = c.byte_at-first.ensures ∙ ap (λ w. get_or w 0 0) c.word.ensures in
    let input = c.record_at.ensures.element ∙ ap (record_at (of_degree c.args.degree c.args.inputs.now)) first in
    let product = c.times_base.ensures.product ∙ ap (padded_times (part_count c.args.degree) c.args.base.now) c.weight.ensures.weight in
    let whole = within_minus 32768 (2 ^ 55) c.record_at.result c.times_base.result c.record_at.ensures.within c.times_base.ensures.within in
    record { part = c.difference.ensures ∙ (λ i. minus (input i) (product i)); within = subst (Within (2 ^ 55 + 32768)) (sym c.difference.ensures) (within_le (32768 + 2 ^ 55) (2 ^ 55 + 32768) _ (lit≤ tt) whole) }
