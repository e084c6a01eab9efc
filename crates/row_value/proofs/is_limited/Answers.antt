-- All four parts.
use mathlib.Core.Bool.{◌&&◌}
use mathlib.Core.Path.{◌≡◌, sym, ap, ◌∙◌}
use lib.Dec.{leb}
use lib.IntN.{nat_abs}
use lib.ListN.{length}
use mir.Syntax.{w64}
use mir.ValLaws.{to_z-of_z}
use borrow.Author.Rules.{rules}
use Rattle.ring.specs.Element.{part}
use Rattle.row_value_rules.specs.Total.{total_limit}
use Rattle.row_value_rules.proofs.Limit.{limited_four}
use Rattle.row_value.proofs.is_limited.Goals as goal

pub returns : goal.returns
returns c =
    let x = c.args.x in
    let h : length x ≡ 4 = search rules in
    let a = c.inside.ensures ∙ ap (λ z. leb (nat_abs z) total_limit) (to_z-of_z w64 (part x 0) (search rules)) in
    let b = c.inside-2.ensures ∙ ap (λ z. leb (nat_abs z) total_limit) (to_z-of_z w64 (part x 1) (search rules)) in
    let d = c.inside-3.ensures ∙ ap (λ z. leb (nat_abs z) total_limit) (to_z-of_z w64 (part x 2) (search rules)) in
    let e = c.inside-4.ensures ∙ ap (λ z. leb (nat_abs z) total_limit) (to_z-of_z w64 (part x 3) (search rules)) in
    (λ i. a i && b i && d i && e i) ∙ sym (limited_four x h)
