-- By the degree: the parts as they are read back.
use mathlib.Core.Path.{refl, sym, ap, ◌∙◌}
use mathlib.Core.List.{List}
use Prim.Native.Nat.{◌-◌}
use lib.IntN.{ℤ}
use mir.Syntax.{w64}
use mir.ValLaws.{to_z-of_z}
use borrow.Author.Rules.{rules}
use Rattle.lists.specs.Span.{span}
use Rattle.lists.proofs.Cons.{cons≡}
use Rattle.ring.specs.declared.Degree.{Degree}
use Rattle.ring.specs.Degree.{part_count}
use Rattle.ring.specs.Element.{part}
use Rattle.ring.specs.Padded.{padded}
use Rattle.digits.proofs.turned.Goals as goal

-- the parts of x in the other order
abbrev turn : List ℤ → Degree → List ℤ
turn x d = padded (span (λ k. part x (part_count d - 1 - k)) 0 (part_count d))

pub returns-in-Two : goal.returns-in-Two
unfolding padded span
returns-in-Two c =
    let x = c.args.x in
    cons≡ (to_z-of_z w64 (part x 1) (search rules)) (cons≡ (to_z-of_z w64 (part x 0) (search rules)) refl) ∙ ap (turn x) (sym c.in-Two.is)

pub returns-in-Three : goal.returns-in-Three
unfolding padded span
returns-in-Three c =
    let x = c.args.x in
    cons≡ (to_z-of_z w64 (part x 2) (search rules)) (cons≡ (to_z-of_z w64 (part x 1) (search rules)) (cons≡ (to_z-of_z w64 (part x 0) (search rules)) refl)) ∙ ap (turn x) (sym c.in-Three.is)

pub returns-in-Four : goal.returns-in-Four
unfolding padded span
returns-in-Four c =
    let x = c.args.x in
    cons≡ (to_z-of_z w64 (part x 3) (search rules)) (cons≡ (to_z-of_z w64 (part x 2) (search rules)) (cons≡ (to_z-of_z w64 (part x 1) (search rules)) (cons≡ (to_z-of_z w64 (part x 0) (search rules)) refl))) ∙ ap (turn x) (sym c.in-Four.is)
