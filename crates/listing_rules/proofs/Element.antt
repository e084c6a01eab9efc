-- The text of an element: computed for some, its cases, its length; text at the right of a column.
use mathlib.Core.Path.{◌≡◌, refl, sym, ap, ap₂, ◌∙◌}
use mathlib.Core.Bool.{Bool, true, false, ◌&&◌, and-false}
use mathlib.Core.List.{List, [], ◌∷◌, ◌++◌, append-nil}
use Prim.Native.Nat.{ℕ, zero, suc, ◌+◌, ◌-◌, ◌*◌, ◌^◌, ◌≤◌, ◌<◌, max}
use native.Mathlib.Decide.{dec_lt}
use native.Mathlib.Nat.{not-suc-le-zero}
use native.Mathlib.Numerals.{add-one}
use native.Mathlib.Omega.{arith}
use lib.Dec.{eqb, ltb}
use lib.IntN.{ℤ, pos, negsuc, nat_abs}
use lib.ListN.{length, replicate, length-append, length-replicate}
use lib.Signed.{lt_z}
use borrow.Author.Tests.{eq-eqb, ne_eqb}
use Rattle.ring.specs.Element.{part}
use Rattle.ring.specs.Padded.{width, padded}
use Rattle.ring.specs.Tests.{Within}
use Rattle.ring.proofs.Padded.{part_padded}
use Rattle.text_rules.specs.Bytes.{bytes_of}
use Rattle.text_rules.specs.Read.{read_on}
use Rattle.text_rules.specs.Decimal.{decimal_within, decimal, decimal_z}
use Rattle.text_rules.proofs.Decimal.{decimal_reads, decimal_short, signed_below, signed_above}
use Rattle.listing_rules.specs.Element.{power_text, factor_text, sign_text, part_text, parts_text, element_text, right}

-- ---- as a reader sees them

pub zero_text : element_text (pos 0 ∷ pos 0 ∷ pos 0 ∷ pos 0 ∷ []) ≡ bytes_of "0"
unfolding bytes_of element_text parts_text part_text sign_text factor_text power_text decimal decimal_within
zero_text = refl

pub whole_text : element_text (negsuc 11 ∷ pos 0 ∷ pos 0 ∷ pos 0 ∷ []) ≡ bytes_of "-12"
unfolding bytes_of element_text parts_text part_text sign_text factor_text power_text decimal decimal_within
whole_text = refl

pub both_text : element_text (pos 2 ∷ pos 3 ∷ pos 0 ∷ pos 0 ∷ []) ≡ bytes_of "2+3w"
unfolding bytes_of element_text parts_text part_text sign_text factor_text power_text decimal decimal_within
both_text = refl

pub below_text : element_text (negsuc 0 ∷ negsuc 9 ∷ pos 0 ∷ pos 0 ∷ []) ≡ bytes_of "-1-10w"
unfolding bytes_of element_text parts_text part_text sign_text factor_text power_text decimal decimal_within
below_text = refl

pub omega_text : element_text (pos 0 ∷ pos 1 ∷ pos 0 ∷ pos 0 ∷ []) ≡ bytes_of "w"
unfolding bytes_of element_text parts_text part_text sign_text factor_text power_text decimal decimal_within
omega_text = refl

pub minus_omega_text : element_text (pos 0 ∷ negsuc 0 ∷ pos 0 ∷ pos 0 ∷ []) ≡ bytes_of "-w"
unfolding bytes_of element_text parts_text part_text sign_text factor_text power_text decimal decimal_within
minus_omega_text = refl

pub all_text : element_text (pos 1 ∷ pos 2 ∷ negsuc 0 ∷ pos 3 ∷ []) ≡ bytes_of "1+2w-w^2+3w^3"
unfolding bytes_of element_text parts_text part_text sign_text factor_text power_text decimal decimal_within
all_text = refl

pub top_text : element_text (pos 0 ∷ pos 0 ∷ pos 1 ∷ negsuc 0 ∷ []) ≡ bytes_of "w^2-w^3"
unfolding bytes_of element_text parts_text part_text sign_text factor_text power_text decimal decimal_within
top_text = refl

pub right_text : right 4 (bytes_of "-7") ≡ bytes_of "  -7"
unfolding bytes_of right
right_text = refl

-- ---- by the tests that choose among them

pub power_none : (k : ℕ) → k ≡ 0 → power_text k ≡ []
unfolding power_text
power_none k h = ap power_text h

pub power_one : (k : ℕ) → k ≡ 1 → power_text k ≡ bytes_of "w"
unfolding power_text
power_one k h = ap power_text h

pub power_more : (k : ℕ) → (k ≡ 0 → ⊥) → (k ≡ 1 → ⊥) → power_text k ≡ bytes_of "w^" ++ decimal k
unfolding power_text
power_more zero h l = absurd (h refl)
power_more (suc zero) h l = absurd (l refl)
power_more (suc (suc k)) h l = refl

module _ (n k : ℕ) where
  pub factor_none : n ≡ 1 → ltb 0 k ≡ true → factor_text n k ≡ []
  unfolding factor_text
  factor_none h l = rw (eq-eqb n 1 h, l, factor_text)

  pub factor_other : (n ≡ 1 → ⊥) → factor_text n k ≡ decimal n
  unfolding factor_text
  factor_other h = rw (ne_eqb n 1 h, factor_text)

  pub factor_whole : n ≡ 1 → ltb 0 k ≡ false → factor_text n k ≡ decimal n
  unfolding factor_text
  factor_whole h l = rw (eq-eqb n 1 h, l, factor_text)

module _ (before : ℕ) (a : ℤ) where
  pub sign_below : lt_z a (pos 0) ≡ true → sign_text before a ≡ bytes_of "-"
  unfolding sign_text
  sign_below h = rw (h, sign_text)

  pub sign_none : lt_z a (pos 0) ≡ false → before ≡ 0 → sign_text before a ≡ []
  unfolding sign_text
  sign_none h k = rw (h, eq-eqb before 0 k, sign_text)

  pub sign_above : lt_z a (pos 0) ≡ false → (before ≡ 0 → ⊥) → sign_text before a ≡ bytes_of "+"
  unfolding sign_text
  sign_above h k = rw (h, ne_eqb before 0 k, sign_text)

  pub part_none : (k : ℕ) → nat_abs a ≡ 0 → part_text before a k ≡ []
  unfolding part_text
  part_none k h = rw (eq-eqb (nat_abs a) 0 h, part_text)

  pub part_some : (k n : ℕ) → n ≡ nat_abs a → (n ≡ 0 → ⊥) → part_text before a k ≡ sign_text before a ++ (factor_text n k ++ power_text k)
  unfolding part_text
  part_some k n e h = rw (e, ne_eqb (nat_abs a) 0 (λ z. h (e ∙ z)), part_text)

-- one part more, for which there is room where all have it
module _ (x : List ℤ) where
  pub parts_next : (k : ℕ) → parts_text x (k + 1) ≡ parts_text x k ++ part_text (length (parts_text x k)) (part x k) k
  unfolding parts_text
  parts_next k = rw add-one

  pub parts_before : (k n : ℕ) → k < n → length (parts_text x k) + length (part_text (length (parts_text x k)) (part x k) k) ≤ length (parts_text x n)
  unfolding parts_text
  parts_before k zero h = absurd (not-suc-le-zero h)
  parts_before k (suc n) h =
      let grown = length-append (parts_text x n) (part_text (length (parts_text x n)) (part x n) n) in
      elim (dec_lt k n) [
        | yes l ↦ omega (arith, grown, parts_before k n l)
        | no m ↦ let last : k ≡ n = omega arith in rw last (omega (arith, grown))
      ]

  pub element_none : length (parts_text x width) ≡ 0 → element_text x ≡ bytes_of "0"
  unfolding element_text
  element_none h = rw (eq-eqb (length (parts_text x width)) 0 h, element_text)

  pub element_some : (length (parts_text x width) ≡ 0 → ⊥) → element_text x ≡ parts_text x width
  unfolding element_text
  element_some h = rw (ne_eqb (length (parts_text x width)) 0 h, element_text)

  -- the parts alone need no more room
  pub element_room : length (parts_text x width) ≤ length (element_text x)
  element_room =
      elim (dec_lt 0 (length (parts_text x width))) [
        | yes l ↦ omega (arith, ap length (element_some (λ z. omega arith)))
        | no m ↦ omega arith
      ]

-- no part above the fourth is written
parts_padded : (x : List ℤ) (n : ℕ) → n ≤ width → parts_text (padded x) n ≡ parts_text x n
unfolding parts_text
parts_padded x zero h = refl
parts_padded x (suc n) h =
    let below = parts_padded x n (omega arith) in
    ap₂ (λ (s : List ℕ) (a : ℤ). s ++ part_text (length s) a n) below (part_padded x n (omega arith))

pub element_padded : (x : List ℤ) → element_text (padded x) ≡ element_text x
unfolding element_text
element_padded x =
    ap (λ (s : List ℕ). elim (eqb (length s) 0) [ true ↦ bytes_of "0" | false ↦ s ]) (parts_padded x width (omega arith))

-- ---- a whole number is its decimal text

abbrev whole : ℤ → List ℤ
whole z = z ∷ pos 0 ∷ pos 0 ∷ pos 0 ∷ []

factor_alone : (n : ℕ) → factor_text n 0 ≡ decimal n
unfolding factor_text
factor_alone n = rw (and-false (eqb n 1), factor_text)

sign_whole : (z : ℤ) (b : Bool) → lt_z z (pos 0) ≡ b → sign_text 0 z ++ decimal (nat_abs z) ≡ decimal_z z
unfolding bytes_of
sign_whole z true h = rw (sign_below 0 z h) (sym (signed_below z h))
sign_whole z false h = rw (sign_none 0 z h refl) (sym (signed_above z h))

first_part : (z : ℤ) → (nat_abs z ≡ 0 → ⊥) → part_text 0 z 0 ≡ decimal_z z
first_part z h =
    part_some 0 z 0 (nat_abs z) refl h
    ∙ rw (power_none 0 refl, append-nil (factor_text (nat_abs z) 0), factor_alone (nat_abs z)) (sign_whole z (lt_z z (pos 0)) refl)

whole_parts : (z : ℤ) → parts_text (whole z) width ≡ part_text 0 z 0
unfolding parts_text part_text
whole_parts z = simp append-nil

some_digit : (n : ℕ) (text : List ℕ) → read_on 0 text ≡ suc n → length text ≡ 0 → ⊥
unfolding read_on
some_digit n [] e h = omega arith
some_digit n (byte ∷ text) e h = omega arith

some_text : (z : ℤ) → (nat_abs z ≡ 0 → ⊥) → length (decimal_z z) ≡ 0 → ⊥
unfolding decimal_z
some_text (pos zero) h e = h refl
some_text (pos (suc n)) h e = some_digit n (decimal (suc n)) (decimal_reads (suc n)) e
some_text (negsuc n) h e = omega arith

written : (z : ℤ) → (nat_abs z ≡ 0 → ⊥) → element_text (whole z) ≡ decimal_z z
written z h =
    let text = whole_parts z ∙ first_part z h in
    element_some (whole z) (λ e. some_text z h (sym (ap length text) ∙ e)) ∙ text

pub element_whole : (z : ℤ) → element_text (whole z) ≡ decimal_z z
unfolding element_text parts_text part_text decimal_z decimal decimal_within bytes_of
element_whole (pos zero) = refl
element_whole (pos (suc n)) = written (pos (suc n)) (λ e. omega arith)
element_whole (negsuc n) = written (negsuc n) (λ e. omega arith)

-- ---- lengths; a part of an element in a file is at most 32,768 in size

-- a whole number of so many digits
pub whole_short : (k : ℕ) (z : ℤ) → nat_abs z < 10 ^ suc k → length (decimal_z z) ≤ suc (suc k)
unfolding decimal_z
whole_short k (pos n) h = omega (arith, decimal_short k n h)
whole_short k (negsuc n) h = omega (arith, decimal_short k (suc n) h)

-- the longer of two that a test chooses from
pub choice_short : (b : Bool) (s t : List ℕ) (n : ℕ) → length s ≤ n → length t ≤ n → length {A = ℕ} (elim b [ true ↦ s | false ↦ t ]) ≤ n
choice_short true s t n h k = h
choice_short false s t n h k = k

factor_short : (m n k : ℕ) → n < 10 ^ suc m → length (factor_text n k) ≤ suc m
unfolding factor_text
factor_short m n k h = choice_short (eqb n 1 && ltb 0 k) [] (decimal n) (suc m) (omega arith) (decimal_short m n h)

sign_short : (before : ℕ) (a : ℤ) → length (sign_text before a) ≤ 1
unfolding sign_text bytes_of
sign_short before a =
    choice_short (lt_z a (pos 0)) (bytes_of "-") (elim (eqb before 0) [ true ↦ [] | false ↦ bytes_of "+" ]) 1 (omega arith) (choice_short (eqb before 0) [] (bytes_of "+") 1 (omega arith) (omega arith))

-- a part of so many digits and one
module _ (m : ℕ) where
  part_short : (before : ℕ) (a : ℤ) (k : ℕ) → nat_abs a < 10 ^ suc m → length (part_text before a k) ≤ suc (suc m) + length (power_text k)
  unfolding part_text
  part_short before a k h =
      let sign = sign_text before a in
      let factor = factor_text (nat_abs a) k in
      choice_short (eqb (nat_abs a) 0) [] (sign ++ (factor ++ power_text k)) (suc (suc m) + length (power_text k)) (omega arith) (omega (arith, length-append sign (factor ++ power_text k), length-append factor (power_text k), sign_short before a, factor_short m (nat_abs a) k h))

  module _ (x : List ℤ) (n : ℕ) (given : Within n x) (small : n < 10 ^ suc m) where
    parts_short : (k : ℕ) → length (parts_text x (suc k)) ≤ length (parts_text x k) + (suc (suc m) + length (power_text k))
    unfolding parts_text Within
    parts_short k =
        omega (arith, length-append (parts_text x k) (part_text (length (parts_text x k)) (part x k) k), part_short (length (parts_text x k)) (part x k) k (omega (arith, given k, small)))

    -- each part has a sign, and ω, ω² and ω³ take 1, 3 and 3 bytes
    pub element_limit : length (element_text x) ≤ 4 * suc (suc m) + 7
    unfolding element_text parts_text power_text bytes_of decimal decimal_within
    element_limit =
        choice_short (eqb (length (parts_text x width)) 0) (bytes_of "0") (parts_text x width) (4 * suc (suc m) + 7) (omega arith) (omega (arith, parts_short 0, parts_short 1, parts_short 2, parts_short 3))

-- four parts of at most 6, 7, 9 and 9 bytes
pub element_short : (x : List ℤ) → Within 32768 x → length (element_text x) ≤ 31
element_short x h = element_limit 4 x 32768 h (omega arith)

-- ---- text at the right of a column

pub right_length : (width : ℕ) (text : List ℕ) → length (right width text) ≡ max width (length text)
unfolding right
right_length width text = simp (length-append, length-replicate) (omega arith)

pub right_short : (width : ℕ) (text : List ℕ) (k : ℕ) → width ≤ k → length text ≤ k → length (right width text) ≤ k
right_short width text k h l = omega (arith, right_length width text)
