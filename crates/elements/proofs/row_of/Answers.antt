-- An entry of each column, as it is read back.
use mathlib.Core.Path.{◌≡◌, refl, sym, ap, ◌∙◌}
use mathlib.Core.List.{[], map}
use lib.ListN.{length, get_or, take}
use mir.Syntax.{w64}
use mir.ValLaws.{to_z-of_z}
use Rattle.lists.proofs.Cons.{cons≡}
use Rattle.ring.specs.Degree.{part_count}
use Rattle.ring.specs.Element.{part}
use Rattle.ring.specs.Padded.{padded}
use Rattle.ring.proofs.Parts.{four_rows}
use borrow.Author.Rules.{rules}
use Rattle.elements.proofs.row_of.Goals as goal

pub returns : goal.returns
returns c =
    let s = c in
    let m = s.args.four in
    let i = s.args.i in
    let h : length m ≡ 4 = search rules in
    let entries = cons≡ (to_z-of_z w64 (part (get_or m 0 []) i) (search rules)) (cons≡ (to_z-of_z w64 (part (get_or m 1 []) i) (search rules)) (cons≡ (to_z-of_z w64 (part (get_or m 2 []) i) (search rules)) (cons≡ (to_z-of_z w64 (part (get_or m 3 []) i) (search rules)) refl))) in
    c.cut.ensures ∙ ap (λ y. padded (take (part_count s.args.degree) y)) (entries ∙ sym (ap (map (λ column. part column i)) (four_rows m h)))
