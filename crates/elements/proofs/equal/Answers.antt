-- Lists of equal numbers are the same, in this order of the parts as in the other.
use mathlib.Core.Path.{◌≡◌, sym, ap, ap₂, ◌∙◌}
use mathlib.Core.Bool.{true}
use mathlib.Core.List.{List, [], ◌∷◌}
use lib.IntN.{ℤ}
use lib.ListN.{length}
use mir.Syntax.{w64}
use mir.Val.{SFits, to_z, of_z}
use mir.ValLaws.{to_z-of_z}
use borrow.Author.Rules.{rules}
use Rattle.std.specs.Cmp.Lexicographic.{pointwise}
use Rattle.std.specs.Cmp.Rules.{signed_items}
use Rattle.std.proofs.Common.{int_eq}
use Rattle.std.proofs.lemmas.Bool.Decides.{same_from_decides}
use Rattle.ring.specs.Element.{part}
use Rattle.ring.specs.Tests.{same}
use Rattle.ring.proofs.Element.{same_refl, same→≡}
use Rattle.ring.proofs.Parts.{four_parts}
use Rattle.elements.proofs.equal.Goals as goal

-- four parts, the last first
abbrev from_last : List ℤ → List ℤ
from_last x = part x 3 ∷ part x 2 ∷ part x 1 ∷ part x 0 ∷ []

-- they are what the machine has of them
held : (x : List ℤ) → SFits w64 (part x 0) → SFits w64 (part x 1) → SFits w64 (part x 2) → SFits w64 (part x 3)
    → (to_z w64 (of_z w64 (part x 3)) ∷ to_z w64 (of_z w64 (part x 2)) ∷ to_z w64 (of_z w64 (part x 1)) ∷ to_z w64 (of_z w64 (part x 0)) ∷ []) ≡ from_last x
held x a b d e = λ i. to_z-of_z w64 (part x 3) e i ∷ to_z-of_z w64 (part x 2) d i ∷ to_z-of_z w64 (part x 1) b i ∷ to_z-of_z w64 (part x 0) a i ∷ []

pub returns : goal.returns
returns c =
    let x = c.args.x in
    let y = c.args.y in
    let h : length x ≡ 4 = search rules in
    let k : length y ≡ 4 = search rules in
    let decided = signed_items (from_last x) (from_last y) in
    let forth : pointwise int_eq (from_last x) (from_last y) ≡ true → x ≡ y = λ e. four_parts x h ∙ ap from_last (decided.0 e) ∙ sym (four_parts y k) in
    c.eq.ensures
    ∙ ap₂ (pointwise int_eq) (held x (search rules) (search rules) (search rules) (search rules)) (held y (search rules) (search rules) (search rules) (search rules))
    ∙ same_from_decides (pointwise int_eq (from_last x) (from_last y)) (same x y) (forth, λ e. decided.1 (ap from_last e)) (same→≡ x y, λ e. ap (same x) (sym e) ∙ same_refl x)
