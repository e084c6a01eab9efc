-- By the degree.
use mathlib.Core.Path.{◌≡◌, refl, sym, ap, subst, ◌∙◌}
use mathlib.Core.List.{[]}
use Prim.Native.Nat.{ℕ, ◌^◌, ◌≤◌}
use native.Mathlib.Nat.{le_trans}
use lib.Dec.{lit≤}
use lib.ListN.{get_or}
use lib.IntN.{ℤ, nat_abs}
use mir.Syntax.{w64}
use Rattle.integers.proofs.Machine.{Term, leaf, ◌⊖◌, ◌⊗◌, plain_bound, stored, stored_is, stored_bound}
use Rattle.ring.specs.declared.Degree.{Degree}
use Rattle.ring.specs.declared.Degree.TheVariants.{Two, Three, Four}
use Rattle.ring.specs.Degree.{part_count}
use Rattle.ring.specs.Padded.{corner}
use Rattle.ring.specs.Determinant.{determinant}
use Rattle.ring.specs.Tests.{Within, RowsLimited}
use Rattle.ring.proofs.Parts.{entry, within_row}
use Rattle.ring.proofs.Columns.{columns_limited, columns_rows}
use Rattle.ring.proofs.Determinant.{two_by_minors}
use borrow.Author.Rules.{rules}
use Rattle.base_tests.proofs.determinant.Goals as goal

pub cross-requires : goal.cross-requires
cross-requires c =
    let row : (i : ℕ) → Within (2 ^ 21) (get_or c.args.rows i []) = λ i. within_row (2 ^ 21) c.args.rows (columns_rows c.args.degree c.args.rows c.requires) i in
    let s = c in (row 0, row 1, lit≤ tt, lit≤ tt)

pub determinant_of_three-requires : goal.determinant_of_three-requires
determinant_of_three-requires c =
    let limited : RowsLimited c.args.rows = columns_limited c.args.degree c.args.rows c.requires in
    limited

pub determinant_of_four-requires : goal.determinant_of_four-requires
determinant_of_four-requires c =
    let limited : RowsLimited c.args.rows = columns_limited c.args.degree c.args.rows c.requires in
    limited

pub returns-in-Three-clause-determinant : goal.returns-in-Three-clause-determinant
returns-in-Three-clause-determinant c =
    let whole : Degree → ℤ = λ d. determinant (part_count d) (corner (part_count d) c.args.rows) in
    let answer : (d : Degree) (r : ℤ) (size : nat_abs r ≤ 2 ^ 61) → d ≡ c.args.degree → r ≡ whole d → (stored w64 (leaf r (2 ^ 61) size) ≡ whole c.args.degree) × (nat_abs (stored w64 (leaf r (2 ^ 61) size)) ≤ 2 ^ 61) = λ d r size told is. let t = leaf r (2 ^ 61) size in (stored_is w64 t refl ∙ is ∙ ap whole told, stored_bound w64 t refl) in (answer Three c.determinant_of_three.result c.determinant_of_three.ensures.within (sym c.in-Three.is) c.determinant_of_three.ensures.determinant).0

pub returns-in-Three-clause-within : goal.returns-in-Three-clause-within
returns-in-Three-clause-within c =
    let whole : Degree → ℤ = λ d. determinant (part_count d) (corner (part_count d) c.args.rows) in
    let answer : (d : Degree) (r : ℤ) (size : nat_abs r ≤ 2 ^ 61) → d ≡ c.args.degree → r ≡ whole d → (stored w64 (leaf r (2 ^ 61) size) ≡ whole c.args.degree) × (nat_abs (stored w64 (leaf r (2 ^ 61) size)) ≤ 2 ^ 61) = λ d r size told is. let t = leaf r (2 ^ 61) size in (stored_is w64 t refl ∙ is ∙ ap whole told, stored_bound w64 t refl) in (answer Three c.determinant_of_three.result c.determinant_of_three.ensures.within (sym c.in-Three.is) c.determinant_of_three.ensures.determinant).1

pub returns-in-Four-clause-determinant : goal.returns-in-Four-clause-determinant
returns-in-Four-clause-determinant c =
    let whole : Degree → ℤ = λ d. determinant (part_count d) (corner (part_count d) c.args.rows) in
    let answer : (d : Degree) (r : ℤ) (size : nat_abs r ≤ 2 ^ 61) → d ≡ c.args.degree → r ≡ whole d → (stored w64 (leaf r (2 ^ 61) size) ≡ whole c.args.degree) × (nat_abs (stored w64 (leaf r (2 ^ 61) size)) ≤ 2 ^ 61) = λ d r size told is. let t = leaf r (2 ^ 61) size in (stored_is w64 t refl ∙ is ∙ ap whole told, stored_bound w64 t refl) in (answer Four c.determinant_of_four.result c.determinant_of_four.ensures.within (sym c.in-Four.is) c.determinant_of_four.ensures.determinant).0

pub returns-in-Four-clause-within : goal.returns-in-Four-clause-within
returns-in-Four-clause-within c =
    let whole : Degree → ℤ = λ d. determinant (part_count d) (corner (part_count d) c.args.rows) in
    let answer : (d : Degree) (r : ℤ) (size : nat_abs r ≤ 2 ^ 61) → d ≡ c.args.degree → r ≡ whole d → (stored w64 (leaf r (2 ^ 61) size) ≡ whole c.args.degree) × (nat_abs (stored w64 (leaf r (2 ^ 61) size)) ≤ 2 ^ 61) = λ d r size told is. let t = leaf r (2 ^ 61) size in (stored_is w64 t refl ∙ is ∙ ap whole told, stored_bound w64 t refl) in (answer Four c.determinant_of_four.result c.determinant_of_four.ensures.within (sym c.in-Four.is) c.determinant_of_four.ensures.determinant).1

pub returns-in-Two-clause-determinant : goal.returns-in-Two-clause-determinant
returns-in-Two-clause-determinant c =
    let whole : Degree → ℤ = λ d. determinant (part_count d) (corner (part_count d) c.args.rows) in
    let answer : (d : Degree) (r : ℤ) (size : nat_abs r ≤ 2 ^ 61) → d ≡ c.args.degree → r ≡ whole d → (stored w64 (leaf r (2 ^ 61) size) ≡ whole c.args.degree) × (nat_abs (stored w64 (leaf r (2 ^ 61) size)) ≤ 2 ^ 61) = λ d r size told is. let t = leaf r (2 ^ 61) size in (stored_is w64 t refl ∙ is ∙ ap whole told, stored_bound w64 t refl) in
    let row : (i : ℕ) → Within (2 ^ 21) (get_or c.args.rows i []) = λ i. within_row (2 ^ 21) c.args.rows (columns_rows c.args.degree c.args.rows c.requires) i in
    let two : Term = entry (2 ^ 21) _ (row 0) 0 ⊗ entry (2 ^ 21) _ (row 1) 1 ⊖ entry (2 ^ 21) _ (row 0) 1 ⊗ entry (2 ^ 21) _ (row 1) 0 in
    let s = c in
    let size = subst (λ z. nat_abs z ≤ 2 ^ 61) (sym c.cross.ensures) (le_trans (plain_bound (two)) (lit≤ tt)) in (answer Two c.cross.result size (sym c.in-Two.is) (c.cross.ensures ∙ sym (two_by_minors s.args.rows (search rules)))).0

pub returns-in-Two-clause-within : goal.returns-in-Two-clause-within
returns-in-Two-clause-within c =
    let whole : Degree → ℤ = λ d. determinant (part_count d) (corner (part_count d) c.args.rows) in
    let answer : (d : Degree) (r : ℤ) (size : nat_abs r ≤ 2 ^ 61) → d ≡ c.args.degree → r ≡ whole d → (stored w64 (leaf r (2 ^ 61) size) ≡ whole c.args.degree) × (nat_abs (stored w64 (leaf r (2 ^ 61) size)) ≤ 2 ^ 61) = λ d r size told is. let t = leaf r (2 ^ 61) size in (stored_is w64 t refl ∙ is ∙ ap whole told, stored_bound w64 t refl) in
    let row : (i : ℕ) → Within (2 ^ 21) (get_or c.args.rows i []) = λ i. within_row (2 ^ 21) c.args.rows (columns_rows c.args.degree c.args.rows c.requires) i in
    let two : Term = entry (2 ^ 21) _ (row 0) 0 ⊗ entry (2 ^ 21) _ (row 1) 1 ⊖ entry (2 ^ 21) _ (row 0) 1 ⊗ entry (2 ^ 21) _ (row 1) 0 in
    let s = c in
    let size = subst (λ z. nat_abs z ≤ 2 ^ 61) (sym c.cross.ensures) (le_trans (plain_bound (two)) (lit≤ tt)) in (answer Two c.cross.result size (sym c.in-Two.is) (c.cross.ensures ∙ sym (two_by_minors s.args.rows (search rules)))).1
