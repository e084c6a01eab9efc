-- By the degree: the first parts, as they are read back, and zeros.
use mathlib.Core.Path.{◌≡◌, refl, sym, ap, ◌∙◌}
use mathlib.Core.List.{List, [], ◌∷◌}
use lib.ListN.{length, take}
use lib.IntN.{ℤ}
use mir.Syntax.{w64}
use mir.ValLaws.{to_z-of_z}
use Rattle.lists.specs.Span.{span}
use Rattle.lists.proofs.Cons.{cons≡}
use Rattle.ring.specs.declared.Degree.{Degree}
use Rattle.ring.specs.declared.Degree.TheVariants.{Two, Three, Four}
use Rattle.ring.specs.Degree.{part_count}
use Rattle.ring.specs.Element.{part}
use Rattle.ring.specs.Padded.{padded}
use Rattle.ring.proofs.Parts.{four_parts}
use borrow.Author.Rules.{rules}
use Rattle.elements.proofs.cut.Goals as goal

pub returns-in-Two : goal.returns-in-Two
unfolding padded span
returns-in-Two c =
    let first : Degree → List ℤ = λ d. padded (take (part_count d) c.args.x) in
    let parts : (d : Degree) (r : List ℤ) → length c.args.x ≡ 4 → d ≡ c.args.degree → r ≡ padded (take (part_count d) (part c.args.x 0 ∷ part c.args.x 1 ∷ part c.args.x 2 ∷ part c.args.x 3 ∷ [])) → r ≡ first c.args.degree = λ d r h told is. is ∙ ap (λ x. padded (take (part_count d) x)) (sym (four_parts c.args.x h)) ∙ ap first told in
    let s = c in
    let x = s.args.x in
    parts Two _ (search rules) (sym c.in-Two.is) (cons≡ (to_z-of_z w64 (part x 0) (search rules)) (cons≡ (to_z-of_z w64 (part x 1) (search rules)) refl))

pub returns-in-Three : goal.returns-in-Three
unfolding padded span
returns-in-Three c =
    let first : Degree → List ℤ = λ d. padded (take (part_count d) c.args.x) in
    let parts : (d : Degree) (r : List ℤ) → length c.args.x ≡ 4 → d ≡ c.args.degree → r ≡ padded (take (part_count d) (part c.args.x 0 ∷ part c.args.x 1 ∷ part c.args.x 2 ∷ part c.args.x 3 ∷ [])) → r ≡ first c.args.degree = λ d r h told is. is ∙ ap (λ x. padded (take (part_count d) x)) (sym (four_parts c.args.x h)) ∙ ap first told in
    let s = c in
    let x = s.args.x in
    parts Three _ (search rules) (sym c.in-Three.is) (cons≡ (to_z-of_z w64 (part x 0) (search rules)) (cons≡ (to_z-of_z w64 (part x 1) (search rules)) (cons≡ (to_z-of_z w64 (part x 2) (search rules)) refl)))

pub returns-in-Four : goal.returns-in-Four
unfolding padded span
returns-in-Four c =
    let first : Degree → List ℤ = λ d. padded (take (part_count d) c.args.x) in
    let parts : (d : Degree) (r : List ℤ) → length c.args.x ≡ 4 → d ≡ c.args.degree → r ≡ padded (take (part_count d) (part c.args.x 0 ∷ part c.args.x 1 ∷ part c.args.x 2 ∷ part c.args.x 3 ∷ [])) → r ≡ first c.args.degree = λ d r h told is. is ∙ ap (λ x. padded (take (part_count d) x)) (sym (four_parts c.args.x h)) ∙ ap first told in
    let s = c in
    let h : length s.args.x ≡ 4 = search rules in
    parts Four s.args.x h (sym c.in-Four.is) (four_parts s.args.x h)
