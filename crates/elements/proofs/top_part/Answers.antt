-- By the degree.
use mathlib.Core.Path.{sym, ap, ◌∙◌}
use Prim.Native.Nat.{◌-◌}
use lib.IntN.{ℤ}
use mir.Syntax.{w64}
use mir.ValLaws.{to_z-of_z}
use Rattle.ring.specs.declared.Degree.{Degree}
use Rattle.ring.specs.Degree.{part_count}
use Rattle.ring.specs.Element.{part}
use borrow.Author.Rules.{rules}
use Rattle.elements.proofs.top_part.Goals as goal

pub returns-in-Two : goal.returns-in-Two
returns-in-Two c =
    let top : Degree → ℤ = λ d. part c.args.x (part_count d - 1) in
    let s = c in to_z-of_z w64 (part s.args.x 1) (search rules) ∙ ap (top) (sym c.in-Two.is)

pub returns-in-Three : goal.returns-in-Three
returns-in-Three c =
    let top : Degree → ℤ = λ d. part c.args.x (part_count d - 1) in
    let s = c in to_z-of_z w64 (part s.args.x 2) (search rules) ∙ ap (top) (sym c.in-Three.is)

pub returns-in-Four : goal.returns-in-Four
returns-in-Four c =
    let top : Degree → ℤ = λ d. part c.args.x (part_count d - 1) in
    let s = c in to_z-of_z w64 (part s.args.x 3) (search rules) ∙ ap (top) (sym c.in-Four.is)
