-- The rows of the four columns.
use mathlib.Core.Path.{◌≡◌, refl, sym, ap, subst, ◌∙◌}
use mathlib.Core.List.{List, map}
use Prim.Native.Nat.{ℕ}
use lib.ListN.{length, take}
use lib.IntN.{ℤ}
use Rattle.lists.specs.Span.{span}
use Rattle.lists.proofs.Cons.{cons≡}
use Rattle.ring.specs.Degree.{part_count}
use Rattle.ring.specs.Element.{part}
use Rattle.ring.specs.Padded.{padded}
use Rattle.ring.specs.Tests.{ColumnsWithin}
use Rattle.ring.proofs.Columns.{rows_by_columns, columns_within_matrix, columns_rows}
use borrow.Author.Rules.{rules}
use Rattle.elements.proofs.base_matrix.Goals as goal

pub returns : goal.returns
unfolding span
returns c =
    let s = c in
    let d = s.args.degree in
    let ω = s.args.omega in
    let β = s.args.beta in
    let h : length ω ≡ 4 = search rules in
    let k : length β ≡ 4 = search rules in
    let row : ℕ → List (List ℤ) → List ℤ = λ i m. padded (take (part_count d) (map (λ column. part column i) m)) in
    let four = c.columns_of-four.ensures in
    let rows = cons≡ (c.row_of.ensures ∙ ap (row 0) four) (cons≡ (c.row_of-2.ensures ∙ ap (row 1) four) (cons≡ (c.row_of-3.ensures ∙ ap (row 2) four) (cons≡ (c.row_of-4.ensures ∙ ap (row 3) four) refl))) in
    let whole = rows ∙ sym (rows_by_columns d ω β h k) in
    let within = subst (ColumnsWithin d) (sym whole) (columns_within_matrix d ω β h k s.requires) in
    record { matrix = whole; columns = within; within = columns_rows d _ within }
