-- Lines as a reader sees them, computed; the cases of a line; the length of an element in brackets.
use mathlib.Core.Path.{◌≡◌, refl}
use mathlib.Core.List.{List, [], ◌∷◌, ◌++◌}
use Prim.Native.Nat.{ℕ, ◌+◌, ◌≤◌, ◌<◌}
use native.Mathlib.Omega.{arith}
use lib.IntN.{ℤ, pos, negsuc}
use lib.ListN.{length, length-append}
use borrow.Author.Tests.{lt-ltb, le-ltb, ne_eqb}
use Rattle.text_rules.specs.Bytes.{bytes_of}
use Rattle.text_rules.specs.Decimal.{decimal_within, decimal}
use Rattle.lists.specs.Span.{span}
use Rattle.ring.specs.declared.Degree.TheVariants.{Two}
use Rattle.ring.specs.Padded.{padded}
use Rattle.layout_rules.specs.Number.{unsigned_at, to_signed}
use Rattle.layout_rules.specs.Section.{Section, of_degree}
use Rattle.digit_rules.specs.Record.{parts_at, element_at}
use Rattle.listing_rules.specs.Listing.{input_text, digit_text, column_text, word_text}
use Rattle.listing_rules.specs.Element.{right, element_text, parts_text, part_text, sign_text, factor_text, power_text}
use Rattle.why_rules.specs.Rule.{file_rule, digit_rule, leaf_rule, rule_line}
use Rattle.why_rules.specs.Why.{numbered, file_line, extent_line, due_line, byte_line, element_line, weight_text, why_leaf, row_line}
use Rattle.why_rules.specs.Why.{bracketed, sum_line, product_line, digit_lines}

-- ---- as a reader sees them

pub extent_line_lem : extent_line (bytes_of "  leaf ") 3 5 9 ≡ bytes_of "  leaf 3: offset 5, length 9\n"
unfolding bytes_of extent_line numbered decimal decimal_within
extent_line_lem = refl

pub due_line_lem : due_line 124 (bytes_of ", and the file has ") 164 ≡ bytes_of "  the offset has to be 124, and the file has 164 bytes\n"
unfolding bytes_of due_line numbered decimal decimal_within
due_line_lem = refl

pub byte_line_lem : byte_line 4 7 ≡ bytes_of "  byte 4 of section 4 is 7\n"
unfolding bytes_of byte_line numbered decimal decimal_within
byte_line_lem = refl

pub file_line_lem : file_line 65535 ≡ bytes_of "  the file has 65535 bytes\n"
unfolding bytes_of file_line decimal decimal_within
file_line_lem = refl

pub large_line : file_line 65536 ≡ bytes_of "  the file has more than 65535 bytes\n"
unfolding bytes_of file_line
large_line = refl

abbrev element : ℤ → ℤ → List ℤ
element a b = a ∷ b ∷ pos 0 ∷ pos 0 ∷ []

pub element_line_lem : element_line (bytes_of "  record ") 3 (element (pos 1) (pos 2)) ≡ bytes_of "  record 3 is 1+2w\n"
unfolding bytes_of element_line decimal decimal_within element_text parts_text part_text sign_text factor_text power_text
element_line_lem = refl

-- 2 with the weights 1+w below and -1 of its own, to the base 3
pub sum_line_lem : sum_line (element (pos 2) (pos 0)) (element (pos 1) (pos 1)) (element (pos 3) (pos 0)) (element (negsuc 0) (pos 0)) ≡ bytes_of "  digit at the top place = U's first digit + L's weight - base * U's weight\n    = (2) + (1+w) - (3)*(-1)\n"
unfolding bytes_of sum_line bracketed decimal decimal_within element_text parts_text part_text sign_text factor_text power_text
sum_line_lem = refl

pub product_line_lem : product_line (element (pos 2) (pos 0)) (element (pos 1) (pos 1)) (element (negsuc 2) (pos 0)) ≡ bytes_of "    = (2) + (1+w) - (-3)\n"
unfolding bytes_of product_line bracketed decimal decimal_within element_text parts_text part_text sign_text factor_text power_text
product_line_lem = refl

pub digit_lines_lem : digit_lines (element (pos 6) (pos 1)) ≡ bytes_of "    = 6+w\n  6+w isn't in the alphabet:"
unfolding bytes_of digit_lines decimal decimal_within element_text parts_text part_text sign_text factor_text power_text
digit_lines_lem = refl

-- a rule of the file, one of base and digits, one of leaves, and a table that breaks none
pub rule_texts : (rule_line 1 ≡ bytes_of "rule 1: a table file has 20 to 65535 bytes\n") × (rule_line 5 ≡ bytes_of "rule 5: omega^2 = t + sw, and s^2 + 4t isn't the square of a whole number\n") × (rule_line 13 ≡ bytes_of "rule 13: leaf 0 has the weight 0, so that zeros stay zeros\n") × (rule_line 0 ≡ bytes_of "nothing to show: every row of input digits is converted into alphabet digits\n")
unfolding bytes_of rule_line file_rule digit_rule leaf_rule
rule_texts = (refl, refl, refl, refl)

-- the input digits 0, 1 and -1 at degree two, and two of them
abbrev digits : Section
digits = of_degree Two (0 ∷ 0 ∷ 0 ∷ 0 ∷ 1 ∷ 0 ∷ 0 ∷ 0 ∷ 255 ∷ 255 ∷ 0 ∷ 0 ∷ [])

pub leaf_line : why_leaf (bytes_of "  U is leaf ") 3 digits (1 ∷ 2 ∷ []) (element (pos 1) (pos 2)) ≡ bytes_of "  U is leaf 3: word 1 -1, weight 1+2w\n"
unfolding bytes_of why_leaf weight_text word_text column_text right digit_text input_text element_at parts_at padded span to_signed unsigned_at decimal decimal_within element_text parts_text part_text sign_text factor_text power_text
leaf_line = refl

pub row_line_lem : row_line digits (2 ∷ 1 ∷ 0 ∷ []) ≡ bytes_of "  row, from the top: -1 1 0\n  U's word starts at its top place, L's word one place below\n"
unfolding bytes_of row_line word_text column_text right digit_text input_text element_at parts_at padded span to_signed unsigned_at decimal decimal_within element_text parts_text part_text sign_text factor_text power_text
row_line_lem = refl

-- ---- the cases of a line

module _ (n : ℕ) where
  pub rule_file : n < 5 → rule_line n ≡ file_rule n
  unfolding rule_line
  rule_file h = rw (lt-ltb n 5 h, rule_line)

  pub rule_digit : 5 ≤ n → n < 9 → rule_line n ≡ digit_rule n
  unfolding rule_line
  rule_digit h l = rw (le-ltb n 5 h, lt-ltb n 9 l, rule_line)

  pub rule_leaf : 5 ≤ n → 9 ≤ n → rule_line n ≡ leaf_rule n
  unfolding rule_line
  rule_leaf h l = rw (le-ltb n 5 h, le-ltb n 9 l, rule_line)

  -- a number that no rule has
  pub file_none : (n ≡ 0 → ⊥) → (n ≡ 1 → ⊥) → (n ≡ 2 → ⊥) → (n ≡ 3 → ⊥) → (n ≡ 4 → ⊥) → file_rule n ≡ []
  unfolding file_rule
  file_none a b c d e = rw (ne_eqb n 0 a, ne_eqb n 1 b, ne_eqb n 2 c, ne_eqb n 3 d, ne_eqb n 4 e, file_rule)

  pub digit_none : (n ≡ 5 → ⊥) → (n ≡ 6 → ⊥) → (n ≡ 7 → ⊥) → (n ≡ 8 → ⊥) → digit_rule n ≡ []
  unfolding digit_rule
  digit_none a b c d = rw (ne_eqb n 5 a, ne_eqb n 6 b, ne_eqb n 7 c, ne_eqb n 8 d, digit_rule)

  pub leaf_none : (n ≡ 9 → ⊥) → (n ≡ 10 → ⊥) → (n ≡ 11 → ⊥) → (n ≡ 12 → ⊥) → (n ≡ 13 → ⊥) → (n ≡ 14 → ⊥) → leaf_rule n ≡ []
  unfolding leaf_rule
  leaf_none a b c d e f =
      rw (ne_eqb n 9 a, ne_eqb n 10 b, ne_eqb n 11 c, ne_eqb n 12 d, ne_eqb n 13 e, ne_eqb n 14 f, leaf_rule)

  pub file_large : 65535 < n → file_line n ≡ bytes_of "  the file has more than 65535 bytes\n"
  unfolding file_line
  file_large h = rw (lt-ltb 65535 n h, file_line)

  pub file_small : n ≤ 65535 → file_line n ≡ (bytes_of "  the file has " ++ decimal n) ++ bytes_of " bytes\n"
  unfolding file_line
  file_small h = rw (le-ltb 65535 n h, file_line)

-- ---- an element in brackets

pub bracketed_length : (before : List ℕ) (x : List ℤ) → length (bracketed before x) ≡ length before + (length (element_text x) + 1)
unfolding bracketed bytes_of
bracketed_length before x =
    omega (arith, length-append before (element_text x ++ bytes_of ")"), length-append (element_text x) (bytes_of ")"))
