-- The lines of a listing: computed for some, the numbers of a base, the cases of a word's digits, lengths.
use mathlib.Core.Path.{◌≡◌, refl, ap}
use mathlib.Core.Bool.{Bool, true, false}
use mathlib.Core.List.{List, [], ◌∷◌, ◌++◌}
use Prim.Native.Nat.{ℕ, zero, suc, ◌+◌, ◌*◌, ◌<◌, ◌≤◌}
use native.Mathlib.Omega.{arith}
use native.Mathlib.Numerals.{add-one}
use native.Mathlib.Nat.{not-suc-le-zero, add-mul, le-div_iff_mul-le}
use native.Mathlib.Decide.{dec_lt}
use lib.Dec.{eqb, ltb}
use lib.IntN.{pos, negsuc}
use lib.ListN.{length, get_or, length-append}
use borrow.Author.Tests.{lt-ltb, le-ltb, eq-eqb, ne_eqb, eqb-true}
use Rattle.lists.specs.Span.{span}
use Rattle.lists.proofs.Test.{both}
use Rattle.layout_rules.specs.Number.{unsigned_at, to_signed}
use Rattle.layout_rules.specs.Section.{Section, of_degree, element_size, record_size, record_count}
use Rattle.layout_rules.specs.Limit.{element_start, limit_check_in}
use Rattle.layout_rules.proofs.Length.{sized}
use Rattle.layout_rules.proofs.Limit.{element_held}
use Rattle.layout_rules.proofs.Number.{size_any}
use Rattle.layout_rules.proofs.Passed.{within_limit}
use Rattle.ring.specs.declared.Degree.{Degree}
use Rattle.ring.specs.declared.Degree.TheVariants.{Two, Three, Four}
use Rattle.ring.specs.Degree.{part_count, base_limit}
use Rattle.ring.specs.Base.{base_trace, base_norm}
use Rattle.ring.specs.Determinant.{alternating, without, determinant}
use Rattle.ring.specs.Element.{plus}
use Rattle.ring.specs.Padded.{padded}
use Rattle.ring.specs.Product.{scale, times_omega, columns, matrix_of}
use Rattle.ring.specs.Tests.{Within, expanding}
use Rattle.digit_rules.specs.Base.{omega_of, beta_of}
use Rattle.digit_rules.specs.Record.{parts_at, element_at, record_at, element_count}
use Rattle.digit_rules.specs.Digits.{BasePart}
use Rattle.digit_rules.proofs.Passed.{element_within}
use Rattle.leaf_rules.specs.Given.{word_given}
use Rattle.text_rules.specs.Bytes.{bytes_of}
use Rattle.text_rules.specs.Decimal.{decimal, decimal_within, decimal_z}
use Rattle.listing_rules.specs.Element.{power_text, factor_text, sign_text, part_text, parts_text, element_text, right}
use Rattle.listing_rules.specs.Listing.{ring_line, limited_base, expanding_word, norm_line, allowed_word, determinant_line, determinant_of, norm_line_in, norm_line_of, input_text, digit_text, column_text, word_text, word_shown, leaf_line}
use Rattle.listing_rules.proofs.Element.{choice_short, element_short, right_length}

-- ---- as a reader sees them: TERN's base, one of degree three, a leaf of BIN, one whose word can't be read

pub tern_ring : ring_line (of_degree Two (0 ∷ 0 ∷ 255 ∷ 255 ∷ 3 ∷ 0 ∷ 0 ∷ 0 ∷ [])) ≡ bytes_of "omega^2 = -1, base 3\n"
unfolding bytes_of ring_line element_text parts_text part_text sign_text factor_text power_text decimal decimal_within omega_of beta_of parts_at span to_signed unsigned_at
tern_ring = refl

pub tern_norm : norm_line (pos 0) (negsuc 0) (pos 3) (pos 0) ≡ bytes_of "T = 6, N = 9, expanding\n"
unfolding bytes_of norm_line expanding_word base_trace base_norm expanding decimal_z decimal decimal_within
tern_norm = refl

-- ω³ is 1 − 2ω² and β is 2 + ω
abbrev cubic : Section
cubic = of_degree Three (254 ∷ 255 ∷ 0 ∷ 0 ∷ 1 ∷ 0 ∷ 2 ∷ 0 ∷ 1 ∷ 0 ∷ 0 ∷ 0 ∷ [])

pub cubic_ring : ring_line cubic ≡ bytes_of "omega^3 = 1-2w^2, base 2+w\n"
unfolding bytes_of ring_line element_text parts_text part_text sign_text factor_text power_text decimal decimal_within omega_of beta_of parts_at span to_signed unsigned_at
cubic_ring = refl

pub cubic_norm : norm_line_of cubic ≡ bytes_of "N = 1, refused by 6\n"
unfolding bytes_of norm_line_of determinant_line allowed_word determinant alternating without matrix_of columns times_omega scale plus omega_of beta_of parts_at span to_signed unsigned_at decimal_z decimal decimal_within
cubic_norm = refl

-- ω³ is 0 and β is −2
pub minus_two_norm : norm_line_of (of_degree Three (0 ∷ 0 ∷ 0 ∷ 0 ∷ 0 ∷ 0 ∷ 254 ∷ 255 ∷ 0 ∷ 0 ∷ 0 ∷ 0 ∷ [])) ≡ bytes_of "N = -8\n"
unfolding bytes_of norm_line_of determinant_line allowed_word determinant alternating without matrix_of columns times_omega scale plus omega_of beta_of parts_at span to_signed unsigned_at decimal_z decimal decimal_within
minus_two_norm = refl

abbrev bin_inputs : Section
bin_inputs = of_degree Two (0 ∷ 0 ∷ 0 ∷ 0 ∷ 1 ∷ 0 ∷ 0 ∷ 0 ∷ 2 ∷ 0 ∷ 0 ∷ 0 ∷ 255 ∷ 255 ∷ 0 ∷ 0 ∷ 254 ∷ 255 ∷ 0 ∷ 0 ∷ [])

pub bin_leaf : leaf_line 2 2 2 bin_inputs (1 ∷ 4 ∷ []) 5 (pos 0 ∷ pos 0 ∷ []) ≡ bytes_of "   5:  1 -2 |  0\n"
unfolding bytes_of leaf_line word_text column_text digit_text input_text right element_text parts_text part_text sign_text factor_text power_text decimal decimal_within element_at parts_at padded span to_signed unsigned_at
bin_leaf = refl

pub bin_unread : leaf_line 2 2 2 bin_inputs [] 5 (pos 0 ∷ pos 1 ∷ []) ≡ bytes_of "   5:  ?    |  w\n"
unfolding bytes_of leaf_line word_text column_text digit_text input_text right element_text parts_text part_text sign_text factor_text power_text decimal decimal_within
bin_unread = refl

-- ---- the base

pub limited_not : (base : Section) → (length base.bytes ≡ 4 * part_count base.degree → ⊥) → limited_base base ≡ false
unfolding limited_base
limited_not base h = rw (ne_eqb (length base.bytes) (4 * part_count base.degree) h, limited_base)

limited_parts : (base : Section) → limited_base base ≡ true → (length base.bytes ≡ 4 * part_count base.degree) × ((limit_check_in base 20 0).number ≡ 0)
unfolding limited_base
limited_parts base h = let parts = both (eqb (length base.bytes) (4 * part_count base.degree)) _ h in (eqb-true _ _ parts.0, eqb-true _ _ parts.1)

pub limited_base_lem : (base : Section) → limited_base base ≡ true → BasePart base
limited_base_lem base h =
    let is = limited_parts base h in
    let bare : (k : ℕ) → element_start base.degree 0 k ≡ k * element_size base.degree = λ k. omega arith in
    record {
      long = is.0;
      small = λ k l. element_within base (k * element_size base.degree) (base_limit base.degree) (λ i j. rw (bare k) at (within_limit base 20 0 is.1 k i (omega arith) l j));
    }

-- above degree two the line is that of the determinant
pub norm_three : (base : Section) → base.degree ≡ Three → norm_line_of base ≡ determinant_line (determinant_of base)
unfolding norm_line_of
norm_three base h = ap (λ (d : Degree). norm_line_in d base) h

pub norm_four : (base : Section) → base.degree ≡ Four → norm_line_of base ≡ determinant_line (determinant_of base)
unfolding norm_line_of
norm_four base h = ap (λ (d : Degree). norm_line_in d base) h

pub expanding_short : (b : Bool) → length (expanding_word b) ≤ 16
unfolding expanding_word bytes_of
expanding_short true = omega arith
expanding_short false = omega arith

pub allowed_short : (b : Bool) → length (allowed_word b) ≤ 15
unfolding allowed_word bytes_of
allowed_short true = omega arith
allowed_short false = omega arith

-- ---- the digits of a word

module _ (inputs : Section) (k : ℕ) where
  pub input_there : k < element_count inputs → input_text inputs k ≡ element_text (record_at inputs k)
  unfolding input_text
  input_there h = rw (lt-ltb _ _ h, input_text)

  pub input_missing : element_count inputs ≤ k → input_text inputs k ≡ bytes_of "?"
  unfolding input_text
  input_missing h = rw (le-ltb _ _ h, input_text)

module _ (inputs : Section) (word : List ℕ) (i : ℕ) where
  pub digit_there : i < length word → digit_text inputs word i ≡ input_text inputs (get_or word i 0)
  unfolding digit_text
  digit_there h = rw (lt-ltb _ _ h, digit_text)

  pub digit_unread : length word ≤ i → i ≡ 0 → digit_text inputs word i ≡ bytes_of "?"
  unfolding digit_text
  digit_unread h e = rw (le-ltb _ _ h, eq-eqb i 0 e, digit_text)

  pub digit_past : length word ≤ i → (i ≡ 0 → ⊥) → digit_text inputs word i ≡ []
  unfolding digit_text
  digit_past h d = rw (le-ltb _ _ h, ne_eqb i 0 d, digit_text)

pub word_next : (width : ℕ) (inputs : Section) (word : List ℕ) (i : ℕ) → word_text width inputs word (i + 1) ≡ word_text width inputs word i ++ column_text width inputs word i
unfolding word_text
word_next width inputs word i = rw add-one

-- the columns up to one and that one have room where all have
pub word_before : (width : ℕ) (inputs : Section) (word : List ℕ) (i n : ℕ) → i < n → length (word_text width inputs word i) + length (column_text width inputs word i) ≤ length (word_text width inputs word n)
unfolding word_text
word_before width inputs word i zero h = absurd (not-suc-le-zero h)
word_before width inputs word i (suc n) h =
    let grown = length-append (word_text width inputs word n) (column_text width inputs word n) in
    elim (dec_lt i n) [
      | yes l ↦ omega (arith, grown, word_before width inputs word i n l)
      | no m ↦ let last : i ≡ n = omega arith in rw last (omega (arith, grown))
    ]

-- the word of a leaf that can be read, and one that can't
module _ (leaves : Section) (words : List ℕ) (k : ℕ) where
  pub word_kept : length (word_given leaves words k) ≤ 8 → word_shown leaves words k ≡ word_given leaves words k
  unfolding word_shown
  word_kept h = rw (le-ltb _ _ h, word_shown)

  pub word_unread : 8 < length (word_given leaves words k) → word_shown leaves words k ≡ []
  unfolding word_shown
  word_unread h = rw (lt-ltb _ _ h, word_shown)

-- the element of a record of the part ends before the part does
pub element_inside : (part : Section) (section k : ℕ) → section < 4 → k < record_count section part → element_start part.degree section k + element_size part.degree ≤ length part.bytes
element_inside part section k known l =
    let size : ℕ = record_size part.degree section in
    let held = element_held part.degree section known in
    let end : (k + 1) * size ≤ length part.bytes = (le-div_iff_mul-le {k = size} {x = k + 1} (sized part.degree section (omega arith)).some).0 (omega arith) in
    omega (arith, add-mul k 1 size)

-- ---- lengths, where every byte of the input digits is one

module _ (inputs : Section) (given : (k : ℕ) → get_or inputs.bytes k 0 < 256) where
  pub bytes_within : (at : ℕ) → Within 32768 (element_at inputs at)
  unfolding unsigned_at
  bytes_within at = element_within inputs at 32768 (λ k h. size_any _ (omega (arith, given (at + 2 * k), given (at + 2 * k + 1))))

  input_short : (k : ℕ) → length (input_text inputs k) ≤ 31
  unfolding input_text bytes_of
  input_short k =
      choice_short (ltb k (element_count inputs)) (element_text (record_at inputs k)) (bytes_of "?") 31 (element_short _ (bytes_within (k * element_size inputs.degree))) (omega arith)

  pub digit_short : (word : List ℕ) (i : ℕ) → length (digit_text inputs word i) ≤ 31
  unfolding digit_text bytes_of
  digit_short word i =
      choice_short (ltb i (length word)) (input_text inputs (get_or word i 0)) (elim (eqb i 0) [ true ↦ bytes_of "?" | false ↦ [] ]) 31 (input_short (get_or word i 0)) (choice_short (eqb i 0) (bytes_of "?") [] 31 (omega arith) (omega arith))

  column_short : (width : ℕ) → width ≤ 31 → (word : List ℕ) (i : ℕ) → length (column_text width inputs word i) ≤ 32
  unfolding column_text bytes_of
  column_short width h word i = omega (arith, right_length width (digit_text inputs word i), digit_short word i)

  pub word_short : (width : ℕ) → width ≤ 31 → (word : List ℕ) (n : ℕ) → length (word_text width inputs word n) ≤ 32 * n
  unfolding word_text
  word_short width h word zero = omega arith
  word_short width h word (suc n) =
      omega (arith, length-append (word_text width inputs word n) (column_text width inputs word n), word_short width h word n, column_short width h word n)
