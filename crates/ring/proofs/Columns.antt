-- The columns β, ω·β, ω²·β, .. of the matrix of multiplication by β: as the code makes them on four parts, and their sizes.
use mathlib.Core.Path.{◌≡◌, refl, sym, ap, ◌∙◌}
use mathlib.Core.List.{List, [], ◌∷◌, map}
use Prim.Native.Nat.{ℕ, zero, suc, ◌-◌, ◌*◌, ◌^◌, ◌<◌, ◌≤◌, zero-le}
use native.Mathlib.Omega.{arith}
use native.Mathlib.Nat.{not-suc-le-zero, le_trans, zero-add, add_comm, mul-suc, mul-one, mul_assoc, pow-zero, pow-succ'}
use native.Mathlib.Decide.{dec_lt}
use lib.Dec.{lit≤}
use lib.ListN.{length, get_or, take, length-take, get_or-map, get_or-eq_default}
use lib.Seq.{length-take-le, take-take, get_or-take}
use lib.IntN.{ℤ, pos, nat_abs, ◌*ℤ◌}
use Rattle.lists.specs.Span.{span}
use Rattle.lists.specs.Count.{total}
use Rattle.integers.proofs.Size.{nat_abs-+, nat_abs-*≤}
use Rattle.lists.proofs.Each.{each}
use Rattle.lists.proofs.Span.{get_d_span, span_ext}
use Rattle.ring.specs.declared.Degree.{Degree}
use Rattle.ring.specs.declared.Degree.TheVariants.{Two, Three, Four}
use Rattle.ring.specs.Degree.{part_count, base_limit}
use Rattle.ring.specs.Element.{part, plus}
use Rattle.ring.specs.Product.{scale, times_omega, columns, matrix_of}
use Rattle.ring.specs.Matrix.{dot, times}
use Rattle.ring.specs.Padded.{width, padded, padded_rows, corner, padded_times, padded_matrix}
use Rattle.ring.specs.Tests.{Within, RowsWithin, LimitedBy, column_limits, BaseSizes, ColumnsWithin, row_limits, RowsLimited}
use Rattle.ring.proofs.Element.{take_plus, take_scale, within_plus, within_scale, within_le}
use Rattle.ring.proofs.Product.{length_omega}
use Rattle.ring.proofs.Matrix.{length_matrix, length_columns, dot_next}
use Rattle.ring.proofs.Parts.{within_part, four_parts}
use Rattle.ring.proofs.Padded.{padded_is, within_none, length_padded, part_padded, row_padded, take_padded, taken, within_take, row_corner, within_padded, padded_entry}

-- ---- ω times an element

-- by the parts below the degree n + 1 of two longer lists
pub omega_first : (n : ℕ) (r x : List ℤ) → n < length r → times_omega (take (suc n) r) (take (suc n) x) ≡ take (suc n) (plus (pos 0 ∷ x) (scale (part x n) r))
unfolding times_omega
omega_first n r x h =
    let top : length (take (suc n) r) - 1 ≡ n = omega (arith, length-take-le (suc n) r h) in
    rw (top, take-take n (suc n) x (omega arith), get_or-take (suc n) x n (pos 0) (omega arith), take_plus (suc n) (pos 0 ∷ x) (scale (part x n) r), take_scale (suc n) (part x n) r)

-- the same from four parts, raised by one power
omega_four : (n : ℕ) (r x : List ℤ) → suc n ≤ width → length r ≡ width → length x ≡ width → times_omega (take (suc n) r) (take (suc n) x) ≡ take (suc n) (plus (pos 0 ∷ part x 0 ∷ part x 1 ∷ part x 2 ∷ []) (scale (part x n) r))
omega_four n r x fits h k =
    let top = take (suc n) (scale (part x n) r) in
    omega_first n r x (omega arith)
    ∙ take_plus (suc n) (pos 0 ∷ x) (scale (part x n) r)
    ∙ ap (λ y. plus y top) (sym (take-take (suc n) width (pos 0 ∷ x) fits))
    ∙ ap (λ y. plus (take (suc n) (take width (pos 0 ∷ y))) top) (four_parts x k)
    ∙ sym (take_plus (suc n) (pos 0 ∷ part x 0 ∷ part x 1 ∷ part x 2 ∷ []) (scale (part x n) r))

pub omega_raised : (degree : Degree) (r x : List ℤ) → length r ≡ width → length x ≡ width → times_omega (take (part_count degree) r) (take (part_count degree) x) ≡ take (part_count degree) (plus (pos 0 ∷ part x 0 ∷ part x 1 ∷ part x 2 ∷ []) (scale (part x (part_count degree - 1)) r))
omega_raised Two r x h k = omega_four 1 r x (lit≤ tt) h k
omega_raised Three r x h k = omega_four 2 r x (lit≤ tt) h k
omega_raised Four r x h k = omega_four 3 r x (lit≤ tt) h k

-- ---- the matrix by its columns

module _ (r : List ℤ) where
  column_short : (n k : ℕ) (β : List ℤ) → 1 ≤ length r → length β ≡ length r → length (get_or (columns r n β) k []) ≤ length r
  unfolding columns
  column_short zero k β positive h = zero-le
  column_short (suc n) zero β positive h = omega arith
  column_short (suc n) (suc k) β positive h = column_short n k (times_omega r β) positive (length_omega r positive β)

  column_next : (n k : ℕ) (β : List ℤ) → suc k < n → get_or (columns r n β) (suc k) [] ≡ times_omega r (get_or (columns r n β) k [])
  unfolding columns
  column_next zero k β h = absurd (not-suc-le-zero h)
  column_next (suc zero) k β h = absurd (omega arith)
  column_next (suc (suc n)) zero β h = refl
  column_next (suc (suc n)) (suc k) β h = column_next (suc n) k (times_omega r β) (omega arith)

  length_column : (n k : ℕ) (β : List ℤ) → k < n → 1 ≤ length r → length β ≡ length r → length (get_or (columns r n β) k []) ≡ length r
  unfolding columns
  length_column zero k β l positive h = absurd (not-suc-le-zero l)
  length_column (suc n) zero β l positive h = h
  length_column (suc n) (suc k) β l positive h = length_column n k (times_omega r β) (omega arith) positive (length_omega r positive β)

  same_column : (n m k : ℕ) (β : List ℤ) → k < n → k < m → get_or (columns r n β) k [] ≡ get_or (columns r m β) k []
  unfolding columns
  same_column zero m k β h l = absurd (not-suc-le-zero h)
  same_column (suc n) zero k β h l = absurd (not-suc-le-zero l)
  same_column (suc n) (suc m) zero β h l = refl
  same_column (suc n) (suc m) (suc k) β h l = same_column n m k (times_omega r β) (omega arith) (omega arith)

  module _ (β : List ℤ) (positive : 1 ≤ length r) (long : length β ≡ length r) where
    -- the entry in row i, column k
    matrix_entry : (i k : ℕ) → part (get_or (matrix_of r β) i []) k ≡ part (get_or (columns r (length r) β) k []) i
    unfolding matrix_of
    matrix_entry i k =
        elim (dec_lt i (length r)) [
          | yes l ↦ ap (λ row. part row k) (get_d_span (λ j. map (λ column. part column j) (columns r (length r) β)) 0 (length r) i [] l) ∙ rw zero-add (get_or-map (λ column. part column i) (columns r (length r) β) k [])
          | no l ↦ ap (λ row. part row k) (get_or-eq_default (matrix_of r β) [] {n = i} (omega (arith, length_matrix r β))) ∙ sym (get_or-eq_default (get_or (columns r (length r) β) k []) (pos 0) {n = i} (omega (arith, column_short (length r) k β positive long)))
        ]

    -- past the last column
    entry_behind : (i k : ℕ) → length r ≤ k → part (get_or (matrix_of r β) i []) k ≡ pos 0
    entry_behind i k h =
        matrix_entry i k ∙ ap (λ column. part column i) (get_or-eq_default (columns r (length r) β) [] {n = k} (omega (arith, length_columns r (length r) β)))

    module _ (fits : length r ≤ width) where
      -- row i of four columns of four parts
      abbrev four : ℕ → List ℤ
      four i = map (λ column. part column i) (padded_rows (columns r width β))

      row_entry : (i k : ℕ) → i < width → part (get_or (matrix_of r β) i []) k ≡ part (take (length r) (four i)) k
      row_entry i k h =
          elim (dec_lt k (length r)) [
            | yes l ↦ let m : k < width = omega arith in
                matrix_entry i k
                ∙ ap (λ column. part column i) (same_column (length r) width k β l m)
                ∙ sym (part_padded (get_or (columns r width β) k []) i h)
                ∙ ap (λ column. part column i) (sym (row_padded (columns r width β) k m))
                ∙ sym (get_or-map (λ column. part column i) (padded_rows (columns r width β)) k [])
                ∙ sym (get_or-take (length r) (four i) k (pos 0) l)
            | no l ↦ entry_behind i k (omega arith) ∙ sym (get_or-eq_default (take (length r) (four i)) (pos 0) {n = k} (omega (arith, length-take (length r) (four i))))
          ]

      pub matrix_by_columns : padded_matrix r β ≡ span (λ i. padded (take (length r) (four i))) 0 width
      unfolding padded_matrix padded_rows
      matrix_by_columns =
          span_ext (λ i. padded (get_or (matrix_of r β) i [])) (λ i. padded (take (length r) (four i))) 0 0 width (λ i h. rw zero-add (padded_is (get_or (matrix_of r β) i []) (padded (take (length r) (four i))) (length_padded (take (length r) (four i))) (λ k l. row_entry i k h ∙ sym (part_padded (take (length r) (four i)) k l))))

-- ---- sizes

omega_size : (b n : ℕ) (r x : List ℤ) → Within b r → Within n x → Within (n * suc b) (times_omega r x)
unfolding times_omega Within
omega_size b n r x h k =
    let top = length r - 1 in
    rw (mul-suc n b, add_comm (n * b) n) (within_plus n (n * b) (pos 0 ∷ take top x) (scale (part x top) r) (raised top) (within_scale n b (part x top) r (k top) h))
  where
    raised : (top : ℕ) → Within n (pos 0 ∷ take top x)
    raised top zero = zero-le
    raised top (suc i) = within_take n top x k i

-- column k of n · (b + 1)ᵏ, where ω's power is of size b and β of size n
column_size : (b : ℕ) (r : List ℤ) → Within b r → (c k n : ℕ) (β : List ℤ) → Within n β → Within (n * suc b ^ k) (get_or (columns r c β) k [])
unfolding columns
column_size b r h zero k n β w = within_none (n * suc b ^ k)
column_size b r h (suc c) zero n β w = rw (pow-zero, mul-one) w
column_size b r h (suc c) (suc k) n β w = rw (pow-succ', ← mul_assoc) (column_size b r h c k (n * suc b) (times_omega r β) (omega_size b n r β h w))

-- what column k keeps to
abbrev reached : Degree → ℕ → ℕ
reached degree k = base_limit degree * suc (base_limit degree) ^ k

reached_limit : (degree : Degree) (k : ℕ) → k < part_count degree → reached degree k ≤ get_or (column_limits degree) k 0
reached_limit Two = each (λ k. reached Two k ≤ get_or (column_limits Two) k 0) 2 ((tt, lit≤ tt), lit≤ tt)
reached_limit Three = each (λ k. reached Three k ≤ get_or (column_limits Three) k 0) 3 (((tt, lit≤ tt), lit≤ tt), lit≤ tt)
reached_limit Four = each (λ k. reached Four k ≤ get_or (column_limits Four) k 0) 4 ((((tt, lit≤ tt), lit≤ tt), lit≤ tt), lit≤ tt)

-- the first three columns, of every degree
reached_three : (degree : Degree) (k : ℕ) → k < 3 → reached degree k ≤ 2 ^ 21
reached_three Two = each (λ k. reached Two k ≤ 2 ^ 21) 3 (((tt, lit≤ tt), lit≤ tt), lit≤ tt)
reached_three Three = each (λ k. reached Three k ≤ 2 ^ 21) 3 (((tt, lit≤ tt), lit≤ tt), lit≤ tt)
reached_three Four = each (λ k. reached Four k ≤ 2 ^ 21) 3 (((tt, lit≤ tt), lit≤ tt), lit≤ tt)

-- limits of any degree in one list
limits_all : (degree : Degree) (k : ℕ) → get_or (column_limits degree) k 0 ≤ get_or row_limits k 0
limits_all Two zero = lit≤ tt
limits_all Two (suc zero) = lit≤ tt
limits_all Two (suc (suc k)) = zero-le
limits_all Three zero = lit≤ tt
limits_all Three (suc zero) = lit≤ tt
limits_all Three (suc (suc zero)) = lit≤ tt
limits_all Three (suc (suc (suc k))) = zero-le
limits_all Four zero = lit≤ tt
limits_all Four (suc zero) = lit≤ tt
limits_all Four (suc (suc zero)) = lit≤ tt
limits_all Four (suc (suc (suc zero))) = lit≤ tt
limits_all Four (suc (suc (suc (suc k)))) = zero-le

-- degrees are from 1 to 4
pub some_parts : (degree : Degree) → (1 ≤ part_count degree) × (part_count degree ≤ width)
some_parts Two = (lit≤ tt, lit≤ tt)
some_parts Three = (lit≤ tt, lit≤ tt)
some_parts Four = (lit≤ tt, lit≤ tt)

pub size_below : (degree : Degree) → base_limit degree ≤ 64
size_below Two = lit≤ tt
size_below Three = lit≤ tt
size_below Four = lit≤ tt

pub length_first : (degree : Degree) (x : List ℤ) → length x ≡ width → length (take (part_count degree) x) ≡ part_count degree
length_first degree x h = length-take-le (part_count degree) x (omega (arith, (some_parts degree).1))

-- r and β are the first parts of the power of ω and of β
module _ (degree : Degree) (power beta : List ℤ) (long_power : length power ≡ width) (long_beta : length beta ≡ width) where
  abbrev r : List ℤ
  r = take (part_count degree) power

  abbrev β : List ℤ
  β = take (part_count degree) beta

  is_degree : length r ≡ part_count degree
  is_degree = length_first degree power long_power

  positive : 1 ≤ length r
  positive = omega (arith, is_degree, (some_parts degree).0)

  long : length β ≡ length r
  long = length_first degree beta long_beta ∙ sym is_degree

  -- the next column, made from four parts
  pub padded_next : (k : ℕ) (c next : List ℤ) → suc k < width → c ≡ padded (get_or (columns r width β) k []) → next ≡ padded (times_omega r (take (part_count degree) c)) → next ≡ padded (get_or (columns r width β) (suc k) [])
  padded_next k c next l is made =
      let column = get_or (columns r width β) k [] in
      made
      ∙ ap (λ x. padded (times_omega r (take (part_count degree) x))) is
      ∙ ap (λ x. padded (times_omega r x)) (take_padded (part_count degree) column (some_parts degree).1 (length_column r width k β (omega arith) positive long ∙ is_degree))
      ∙ ap padded (sym (column_next r width k β l))

  -- the rows, each of four columns' parts, those above the degree left out
  pub rows_by_columns : padded_matrix r β ≡ span (λ i. padded (take (part_count degree) (map (λ column. part column i) (padded_rows (columns r width β))))) 0 width
  rows_by_columns = rw is_degree at (matrix_by_columns r β positive long (omega (arith, is_degree, (some_parts degree).1)))

  module _ (sizes : BaseSizes degree power beta) where
    column_limit : (n k : ℕ) → Within (reached degree k) (get_or (columns r n β) k [])
    column_limit n k =
        let b = base_limit degree in
        column_size b r (within_take b (part_count degree) power sizes.of_omega) n k b β (within_take b (part_count degree) beta sizes.of_beta)

    -- what the code makes the next column from
    pub column_within : (k : ℕ) → k < 3 → Within (2 ^ 21) (padded (get_or (columns r width β) k []))
    column_within k h =
        within_padded (2 ^ 21) (get_or (columns r width β) k []) (within_le (reached degree k) (2 ^ 21) (get_or (columns r width β) k []) (reached_three degree k h) (column_limit width k))

    entry_size : (i k : ℕ) → nat_abs (part (get_or (matrix_of r β) i []) k) ≤ get_or (column_limits degree) k 0
    entry_size i k =
        elim (dec_lt k (part_count degree)) [
          | yes l ↦ rw (matrix_entry r β positive long i k) (le_trans (within_part (reached degree k) (get_or (columns r (length r) β) k []) (column_limit (length r) k) i) (reached_limit degree k l))
          | no l ↦ rw (entry_behind r β positive long i k (omega (arith, is_degree))) zero-le
        ]

    pub columns_within_matrix : ColumnsWithin degree (padded_matrix r β)
    unfolding ColumnsWithin LimitedBy padded_matrix
    columns_within_matrix i k = padded_entry (λ z. nat_abs z ≤ get_or (column_limits degree) k 0) zero-le (matrix_of r β) i k (entry_size i k)

-- ---- from the limits of the columns

pub columns_limited : (degree : Degree) (m : List (List ℤ)) → ColumnsWithin degree m → RowsLimited m
unfolding ColumnsWithin RowsLimited LimitedBy
columns_limited degree m h i k = le_trans (h i k) (limits_all degree k)

pub limited_within : (x : List ℤ) → LimitedBy row_limits x → Within (2 ^ 21) x
unfolding LimitedBy Within
limited_within x h k = le_trans (h k) (below k)
  where
    below : (k : ℕ) → get_or row_limits k 0 ≤ 2 ^ 21
    below zero = lit≤ tt
    below (suc zero) = lit≤ tt
    below (suc (suc zero)) = lit≤ tt
    below (suc (suc (suc zero))) = lit≤ tt
    below (suc (suc (suc (suc k)))) = zero-le

pub columns_rows : (degree : Degree) (m : List (List ℤ)) → ColumnsWithin degree m → RowsWithin (2 ^ 21) m
unfolding RowsLimited RowsWithin
columns_rows degree m h i = limited_within (get_or m i []) (columns_limited degree m h i)

-- ---- base times element, each column within its limit

-- what d entries of a row, each of its limit, give with an element of size n
abbrev pub product_limit : List ℕ → ℕ → ℕ → ℕ
product_limit limits n d = total (λ k. get_or limits k 0 * n) d

dot_limited : (limits : List ℕ) (n : ℕ) (row x : List ℤ) → LimitedBy limits row → Within n x → (d : ℕ) → nat_abs (dot (take d row) x) ≤ product_limit limits n d
unfolding total LimitedBy Within dot
dot_limited limits n row x h w zero = zero-le
dot_limited limits n row x h w (suc d) =
    rw (dot_next d row x)
    (omega (arith, nat_abs-+ (dot (take d row) x) (part row d *ℤ part x d), dot_limited limits n row x h w d, nat_abs-*≤ (part row d) (part x d) (get_or limits d 0) n (h d) (w d)))

pub times_limited : (degree : Degree) (n : ℕ) (m : List (List ℤ)) (x : List ℤ) → ColumnsWithin degree m → Within n x → Within (product_limit (column_limits degree) n (part_count degree)) (padded_times (part_count degree) m x)
unfolding padded_times times ColumnsWithin Within LimitedBy dot
times_limited degree n m x h w =
    within_padded most (times (corner d m) x) (λ i. rw (get_or-map (λ row. dot row x) (corner d m) i [], row_corner d m i) (row i))
  where
    d : ℕ
    d = part_count degree

    most : ℕ
    most = product_limit (column_limits degree) n d

    row : (i : ℕ) → nat_abs (dot (take d (get_or (take d m) i [])) x) ≤ most
    row i = dot_limited (column_limits degree) n (get_or (take d m) i []) x (taken (LimitedBy (column_limits degree)) [] (λ k. zero-le) d m h i) w d
