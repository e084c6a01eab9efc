-- Every part on the way is far inside 64 bits.
use mathlib.Core.Path.{sym, ap₂, subst, ◌∙◌}
use Prim.Native.Nat.{◌^◌, ◌+◌}
use lib.Dec.{lit≤}
use Rattle.ring.specs.Element.{minus}
use Rattle.ring.specs.Tests.{Within}
use Rattle.ring.proofs.Element.{within_plus, within_le}
use Rattle.numeration.specs.Conversion.{out_digit}
use Rattle.numeration.specs.Elements.{elements}
use Rattle.converted_digit.proofs.out_digit.Goals as goal

pub sum-requires : goal.sum-requires
sum-requires c = (within_le 32768 (2 ^ 61) _ (lit≤ tt) c.requires.1, within_le 32768 (2 ^ 61) _ (lit≤ tt) c.requires.2)

pub times_base-requires : goal.times_base-requires
times_base-requires c =
    let s = c in
    (s.requires.0, within_le 32768 (2 ^ 32) _ (lit≤ tt) s.requires.3)

pub difference-requires : goal.difference-requires
difference-requires c =
    let s = c in
    let total = within_plus 32768 32768 s.args.input s.args.below s.requires.1 s.requires.2 in
    (subst (Within (2 ^ 61)) (sym c.sum.ensures) (within_le (32768 + 32768) (2 ^ 61) _ (lit≤ tt) total), within_le (2 ^ 55) (2 ^ 61) _ (lit≤ tt) c.times_base.ensures.within)

pub returns : goal.returns
unfolding out_digit elements
returns c = c.difference.ensures ∙ ap₂ minus c.sum.ensures c.times_base.ensures.product
