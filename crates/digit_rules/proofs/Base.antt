-- Laws of the base section, of its length and within the size limits.
use mathlib.Core.Path.{◌≡◌, refl, sym, ap, subst, ◌∙◌}
use mathlib.Core.Bool.{true, false}
use mathlib.Core.List.{List, [], ◌∷◌}
use Prim.Native.Nat.{ℕ, ◌+◌, ◌-◌, ◌*◌, ◌/◌, ◌^◌, ◌<◌, ◌≤◌}
use native.Mathlib.Nat.{zero-add, zero-mul, one-mul}
use native.Mathlib.Omega.{arith}
use lib.ListN.{length, get_or, take}
use lib.IntN.{ℤ, pos, nat_abs, ◌+ℤ◌, ◌*ℤ◌}
use Rattle.lists.specs.Span.{span}
use Rattle.lists.proofs.Span.{length_span, span_ext}
use Rattle.faults.specs.Check.{refusal, none, judge}
use Rattle.faults.proofs.Check.{once_broken, once_kept, then_found, then_next}
use Rattle.ring.specs.declared.Degree.{Degree}
use Rattle.ring.specs.declared.Degree.TheVariants.{Two, Three, Four}
use Rattle.ring.specs.Degree.{part_count, base_limit}
use Rattle.ring.specs.Element.{part, zeros}
use Rattle.ring.specs.Padded.{padded, padded_rows, corner, padded_times, padded_matrix}
use Rattle.ring.specs.Product.{product, matrix_of}
use Rattle.ring.specs.Tests.{Within, RowsWithin, BaseLimits, BaseSizes, ColumnsWithin}
use Rattle.ring.proofs.Base.{rows_of_two}
use Rattle.ring.proofs.Columns.{columns_within_matrix, columns_rows}
use Rattle.ring.proofs.Matrix.{length_matrix, length_row}
use Rattle.ring.proofs.Padded.{length_padded, take_padded, corner_padded, padded_product, within_padded}
use Rattle.ring.proofs.Parts.{within_part}
use Rattle.ring.proofs.Element.{within_span}
use Rattle.layout_rules.specs.Number.{signed_at}
use Rattle.layout_rules.specs.Section.{element_size, Section, of_degree}
use Rattle.digit_rules.specs.Record.{parts_at, element_at, record_at}
use Rattle.digit_rules.specs.Base.{omega_of, beta_of, sOf, tOf, uOf, vOf}
use Rattle.digit_rules.specs.BaseMatrix.{base_matrix}
use Rattle.digit_rules.specs.Digits.{BasePart, discriminant_allowed, base_allowed, base_check}
use Rattle.digit_rules.proofs.Record.{parts_most, parts_counted, element_part}

-- degree two: ω² is s·ω + t and β is u + v·ω
pub matrix_of_two : (bytes : List ℕ) → let base = of_degree Two bytes in base_matrix base ≡ padded_matrix (tOf base ∷ sOf base ∷ []) (uOf base ∷ vOf base ∷ [])
unfolding base_matrix omega_of beta_of element_at parts_at padded span
matrix_of_two bytes = refl

-- "two rows of two whole numbers, (u, t·v) and (v, u + s·v)", as four rows of four
pub base_rows : (bytes : List ℕ) → let base = of_degree Two bytes in
    base_matrix base ≡ (uOf base ∷ (tOf base *ℤ vOf base) ∷ pos 0 ∷ pos 0 ∷ []) ∷ (vOf base ∷ (uOf base +ℤ sOf base *ℤ vOf base) ∷ pos 0 ∷ pos 0 ∷ []) ∷ zeros 4 ∷ zeros 4 ∷ []
unfolding padded_matrix padded_rows padded span
base_rows bytes = let base = of_degree Two bytes in matrix_of_two bytes ∙ ap padded_rows (rows_of_two (sOf base) (tOf base) (uOf base) (vOf base))

-- for every degree multiplication by the base is the product with β, in the ring of ω
module _ (base : Section) where
  pub omega_parts : length (omega_of base) ≡ part_count base.degree
  unfolding omega_of
  omega_parts = length_span _ 0 (part_count base.degree)

  pub beta_parts : length (beta_of base) ≡ part_count base.degree
  unfolding beta_of
  beta_parts = parts_counted base _

  -- the first rows and columns are the matrix of the degree
  pub base_corner : corner (part_count base.degree) (base_matrix base) ≡ matrix_of (omega_of base) (beta_of base)
  unfolding base_matrix padded_matrix
  base_corner =
      let long : (i : ℕ) → i < part_count base.degree → length (get_or (matrix_of (omega_of base) (beta_of base)) i []) ≡ part_count base.degree =
      λ i h. length_row (omega_of base) (beta_of base) i (rw omega_parts h) ∙ omega_parts in
      corner_padded (part_count base.degree) (matrix_of (omega_of base) (beta_of base)) (parts_most base.degree) (length_matrix (omega_of base) (beta_of base) ∙ omega_parts) long

  pub base_product : (x : List ℤ) → length x ≡ part_count base.degree → padded_times (part_count base.degree) (base_matrix base) (padded x) ≡ padded (product (omega_of base) (beta_of base) x)
  unfolding base_matrix
  base_product x h =
      subst (λ (d : ℕ). padded_times d (padded_matrix (omega_of base) (beta_of base)) (padded x) ≡ padded (product (omega_of base) (beta_of base) x)) omega_parts
      (padded_product (omega_of base) (beta_of base) x (omega (arith, omega_parts, some_part base.degree)) (omega (arith, omega_parts, parts_most base.degree)) (beta_parts ∙ sym omega_parts) (h ∙ sym omega_parts))
    where
      some_part : (d : Degree) → 1 ≤ part_count d
      some_part Two = omega arith
      some_part Three = omega arith
      some_part Four = omega arith

-- the parts of ω to the power of the degree, from those of the first record
pub omega_turned : (base : Section) → let d = part_count base.degree in padded (omega_of base) ≡ padded (span (λ k. part (record_at base 0) (d - 1 - k)) 0 d)
unfolding omega_of
omega_turned base =
    let d = part_count base.degree in
    ap padded (span_ext _ _ 0 0 d (λ k l. sym (element_part base (0 * element_size base.degree) (d - 1 - (0 + k)) (omega arith) ∙ ap (signed_at base.bytes) (omega arith))))

-- and those of β are the second's
pub beta_record : (base : Section) → record_at base 1 ≡ padded (beta_of base)
unfolding element_at beta_of
beta_record base = ap (λ (n : ℕ). padded (parts_at base n)) (one-mul (element_size base.degree))

-- the matrix, from the parts as they are read
pub matrix_read : (base : Section) (power beta : List ℤ) → power ≡ padded (omega_of base) → beta ≡ padded (beta_of base) → let d = part_count base.degree in padded_matrix (take d power) (take d beta) ≡ base_matrix base
unfolding base_matrix
matrix_read base power beta is are =
    let d = part_count base.degree in
    let most = parts_most base.degree in
    (λ i. padded_matrix (take d (is i)) (take d (are i))) ∙ (λ i. padded_matrix (take_padded d (omega_of base) most (omega_parts base) i) (take_padded d (beta_of base) most (beta_parts base) i))

-- the base section has two records
pub two_records : (d : Degree) (n : ℕ) → n ≡ 4 * part_count d → n / element_size d ≡ 2
two_records Two n h = omega arith
two_records Three n h = omega arith
two_records Four n h = omega arith

module _ (base : Section) (is : BasePart base) where
  number_within : (k i : ℕ) → k < 2 → nat_abs (part (record_at base k) i) ≤ base_limit base.degree
  number_within k i h = within_part (base_limit base.degree) (record_at base k) (is.small k (omega (arith, two_records base.degree (length base.bytes) is.long))) i

  -- the number of part i of a record
  read_within : (k i : ℕ) → k < 2 → i < part_count base.degree → nat_abs (signed_at base.bytes (k * element_size base.degree + 2 * i)) ≤ base_limit base.degree
  read_within k i h l = rw (← element_part base (k * element_size base.degree) i l) (number_within k i h)

  pub omega_within : Within (base_limit base.degree) (omega_of base)
  unfolding omega_of
  omega_within =
      within_span (base_limit base.degree) _ 0 (part_count base.degree)
      (λ k l. rw (zero-mul (element_size base.degree), zero-add (2 * (part_count base.degree - 1 - (0 + k)))) at (read_within 0 (part_count base.degree - 1 - (0 + k)) (omega arith) (omega arith)))

  pub beta_within : Within (base_limit base.degree) (beta_of base)
  unfolding beta_of parts_at
  beta_within =
      within_span (base_limit base.degree) _ 0 (part_count base.degree)
      (λ k l. rw (one-mul (element_size base.degree), ← zero-add k) at (read_within 1 k (omega arith) (omega arith)))

  pub base_sizes : BaseSizes base.degree (padded (omega_of base)) (padded (beta_of base))
  base_sizes =
      let n = base_limit base.degree in
      record { of_omega = within_padded n (omega_of base) omega_within; of_beta = within_padded n (beta_of base) beta_within }

  -- the columns of the matrix keep to their limits, so that it is small enough to multiply by
  pub base_columns : ColumnsWithin base.degree (base_matrix base)
  base_columns =
      rw (← matrix_read base _ _ refl refl)
      (columns_within_matrix base.degree (padded (omega_of base)) (padded (beta_of base)) (length_padded (omega_of base)) (length_padded (beta_of base)) base_sizes)

  pub base_within : RowsWithin (2 ^ 21) (base_matrix base)
  base_within = columns_rows base.degree (base_matrix base) base_columns

-- the limits of s, t, u and v
pub base_limits : (bytes : List ℕ) → let base = of_degree Two bytes in BasePart base → BaseLimits (sOf base) (tOf base) (uOf base) (vOf base)
base_limits bytes is =
    let number = number_within (of_degree Two bytes) is in
    record { of_s = number 0 0 (omega arith); of_t = number 0 1 (omega arith); of_u = number 1 0 (omega arith); of_v = number 1 1 (omega arith) }

-- one law for each answer of rules 5 and 6, the tests as they were made
module _ (base : Section) where
  pub square_refused : discriminant_allowed base ≡ false → refusal 5 0 ≡ base_check base
  unfolding base_check
  square_refused h = rw (once_broken 5 (λ k. k) (discriminant_allowed base) h) (sym (then_found (refusal 5 0) _ (λ z. omega arith)))

  module _ (left : discriminant_allowed base ≡ true) where
    next : base_check base ≡ judge 6 (λ k. k) (λ _. base_allowed base) 1
    unfolding base_check
    next = rw (once_kept 5 (λ k. k) (discriminant_allowed base) left) (then_next none _ refl)

    pub base_refused : base_allowed base ≡ false → refusal 6 0 ≡ base_check base
    base_refused h = sym (next ∙ once_broken 6 (λ k. k) (base_allowed base) h)

    pub base_kept : base_allowed base ≡ true → none ≡ base_check base
    base_kept h = sym (next ∙ once_kept 6 (λ k. k) (base_allowed base) h)
