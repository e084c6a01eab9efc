-- The determinant is written as an element that is a whole number; three pieces, one behind the other.
use Prim.Native.Nat.{ℕ, ◌^◌, ◌≤◌}
use mathlib.Core.List.{List, [], ◌∷◌, ◌++◌}
use mathlib.Core.Path.{◌≡◌, refl, ap, ◌∙◌}
use native.Mathlib.Omega.{arith}
use lib.Dec.{ltb}
use lib.IntN.{ℤ, pos, nat_abs}
use lib.ListN.{length, length-append}
use mir.Syntax.{w64}
use mir.Val.{to_z, of_z}
use Rattle.integers.proofs.Machine.{Term, leaf, stored_is}
use Rattle.ring.proofs.Parts.{within_four}
use Rattle.ring.specs.Degree.{part_count}
use Rattle.ring.specs.Determinant.{determinant}
use Rattle.ring.specs.Padded.{corner}
use Rattle.ring.specs.Tests.{Within}
use Rattle.text_rules.specs.Bytes.{bytes_of}
use Rattle.text_rules.specs.Decimal.{decimal_z}
use Rattle.text.proofs.Behind.{last, next, line}
use Rattle.layout_rules.specs.Section.{Section, of_degree}
use Rattle.digit_rules.specs.BaseMatrix.{base_matrix}
use Rattle.digit_rules.proofs.Base.{base_corner, base_columns}
use Rattle.listing_rules.specs.Element.{element_text}
use Rattle.listing_rules.specs.Listing.{allowed_word, determinant_line, determinant_of}
use Rattle.listing_rules.proofs.Element.{element_whole, whole_short}
use Rattle.listing_rules.proofs.Lines.{allowed_short}
use Rattle.listing.proofs.determinant_line.Goals as goal

-- the determinant as it was found and handed on
module _ (base : Section) (rows : List (List ℤ)) (n : ℤ) (rows_are : rows ≡ base_matrix base) (found : n ≡ determinant (part_count base.degree) (corner (part_count base.degree) rows)) (within : nat_abs n ≤ 2 ^ 61) where
  found_is : n ≡ determinant_of base
  found_is = found ∙ ap (λ m. determinant (part_count base.degree) (corner (part_count base.degree) m)) rows_are ∙ ap (determinant (part_count base.degree)) (base_corner base)

  abbrev number : Term
  number = leaf n (2 ^ 61) within

  held : to_z w64 (of_z w64 n) ≡ n
  held = stored_is w64 number refl

  handed : to_z w64 (of_z w64 n) ≡ determinant_of base
  handed = held ∙ found_is

  written : element_text (to_z w64 (of_z w64 n) ∷ pos 0 ∷ pos 0 ∷ pos 0 ∷ []) ≡ decimal_z (determinant_of base)
  written = ap (λ z. element_text (z ∷ pos 0 ∷ pos 0 ∷ pos 0 ∷ [])) handed ∙ element_whole (determinant_of base)

  small : nat_abs (determinant_of base) ≤ 2 ^ 61
  small = rw found_is at within

  short : length (element_text (to_z w64 (of_z w64 n) ∷ pos 0 ∷ pos 0 ∷ pos 0 ∷ [])) ≤ 20
  short = rw written (whole_short 18 (determinant_of base) (omega (arith, small)))

  parts : Within (2 ^ 62) (to_z w64 (of_z w64 n) ∷ pos 0 ∷ pos 0 ∷ pos 0 ∷ [])
  parts = within_four (2 ^ 62) _ (pos 0) (pos 0) (pos 0) (rw held (omega (arith, within))) (omega arith) (omega arith) (omega arith)

  -- the test on the size
  tested : (m : ℕ) → m ≡ nat_abs (to_z w64 (of_z w64 n)) → ltb 1 m ≡ ltb 1 (nat_abs (determinant_of base))
  tested m e = ap (ltb 1) (e ∙ ap nat_abs handed)

pub determinant-norm-requires : goal.determinant-norm-requires
determinant-norm-requires c = rw c.base_of.ensures (base_columns (of_degree c.args.degree c.args.base.now) c.requires)

pub put_element-requires : goal.put_element-requires
put_element-requires c = (
  omega arith,
  (
    simp (c.put.ensures, c.new-text.ensures, length-append) (omega (arith, short (of_degree c.args.degree c.args.base.now) c.base_of.result c.determinant-norm.result c.base_of.ensures c.determinant-norm.ensures.determinant c.determinant-norm.ensures.within)),
    parts (of_degree c.args.degree c.args.base.now) c.base_of.result c.determinant-norm.result c.base_of.ensures c.determinant-norm.ensures.determinant c.determinant-norm.ensures.within,
  ),
)

pub size-requires : goal.size-requires
size-requires c = rw (stored_is w64 (leaf c.determinant-norm.result (2 ^ 61) c.determinant-norm.ensures.within) refl) (omega (arith, c.determinant-norm.ensures.within))

pub put-requires-2 : goal.put-requires-2
put-requires-2 c = (omega arith, simp (c.allowed_word.ensures, c.put_element.ensures, c.put.ensures, c.new-text.ensures, length-append) (omega (arith, short (of_degree c.args.degree c.args.base.now) c.base_of.result c.determinant-norm.result c.base_of.ensures c.determinant-norm.ensures.determinant c.determinant-norm.ensures.within, allowed_short (ltb 1 c.size.result))))

pub returns : goal.returns
unfolding bytes_of determinant_line
returns c =
    let number = rw (written (of_degree c.args.degree c.args.base.now) c.base_of.result c.determinant-norm.result c.base_of.ensures c.determinant-norm.ensures.determinant c.determinant-norm.ensures.within) at c.put_element.ensures in
    let word = c.allowed_word.ensures ∙ ap allowed_word (tested (of_degree c.args.degree c.args.base.now) c.base_of.result c.determinant-norm.result c.base_of.ensures c.determinant-norm.ensures.determinant c.determinant-norm.ensures.within _ c.size.ensures) in
    let whole = line c.new-text.ensures (next _ _ _ _ _ c.put.ensures (next _ _ _ _ _ number (last _ _ _ (c.put-2.ensures ∙ ap (λ w. c.put_element.new.text ++ w) word)))) in
    whole
