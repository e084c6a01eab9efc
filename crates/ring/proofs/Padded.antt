-- Elements as four parts: padding keeps sums, differences, negatives, products by the base and sizes, and loses nothing up to degree four.
use mathlib.Core.Path.{◌≡◌, refl, sym, ap, ap₂, subst, ◌∙◌}
use mathlib.Core.List.{List, [], ◌∷◌, map}
use Prim.Native.Nat.{ℕ, zero, suc, ◌+◌, ◌-◌, ◌*◌, ◌<◌, ◌≤◌, zero-le}
use native.Mathlib.Omega.{arith}
use native.Mathlib.Nat.{zero-add}
use native.Mathlib.Decide.{dec_lt, ℕ_discrete}
use lib.ListN.{length, get_or, set, take, length-set, length-take, length-replicate, get_or-map, get_or-eq_default}
use lib.Seq.{take-nil, ext_get_or, get_or-set_same, get_or-set_other}
use lib.IntN.{ℤ, pos, nat_abs, neg_ℤ, ◌+ℤ◌, ◌-ℤ◌}
use mir.Syntax.{w64}
use mir.Val.{SFits, to_z, of_z}
use mir.ValLaws.{to_z-of_z}
use Rattle.lists.specs.Span.{span}
use Rattle.lists.proofs.Cons.{cons≡}
use Rattle.lists.proofs.Span.{length_span, get_d_span, span_ext, take_span, map_span, listed}
use Rattle.ring.specs.Element.{part, zeros, plus, negative, minus}
use Rattle.ring.specs.Matrix.{dot, times}
use Rattle.ring.specs.Product.{product, matrix_of}
use Rattle.ring.specs.Tests.{Within, RowsWithin}
use Rattle.ring.specs.Padded.{width, padded, padded_rows, corner, padded_times, padded_matrix}
use Rattle.ring.proofs.Element.{plus_parts, minus_parts, length_negative, part_plus, part_negative, part_minus, part_zeros}
use Rattle.ring.proofs.Matrix.{dot_parts, times_plus, times_negative, within_times, matrix_product, length_matrix, length_row}

-- ---- four parts

pub length_padded : (x : List ℤ) → length (padded x) ≡ width
unfolding padded
length_padded x = length_span (part x) 0 width

pub part_padded : (x : List ℤ) (k : ℕ) → k < width → part (padded x) k ≡ part x k
unfolding padded
part_padded x k h = get_d_span (part x) 0 width k (pos 0) h ∙ ap (part x) (zero-add k)

pub part_above : (x : List ℤ) (k : ℕ) → width ≤ k → part (padded x) k ≡ pos 0
part_above x k h = get_or-eq_default (padded x) (pos 0) (omega (arith, length_padded x))

-- four parts that are those of x
pub padded_is : (x y : List ℤ) → length y ≡ width → ((k : ℕ) → k < width → part x k ≡ part y k) → padded x ≡ y
padded_is x y h parts =
    ext_get_or (pos 0) (padded x) y (length_padded x ∙ sym h) (λ k l. let b : k < width = omega (arith, length_padded x) in part_padded x k b ∙ parts k b)

pub padded_plus : (x y : List ℤ) → padded (plus x y) ≡ plus (padded x) (padded y)
padded_plus x y =
    padded_is (plus x y) (plus (padded x) (padded y)) (plus_parts width (padded x) (padded y) (length_padded x) (length_padded y)) (λ k h. part_plus x y k ∙ sym (part_plus (padded x) (padded y) k ∙ ap₂ (λ a b. a +ℤ b) (part_padded x k h) (part_padded y k h)))

pub padded_minus : (x y : List ℤ) → padded (minus x y) ≡ minus (padded x) (padded y)
padded_minus x y =
    padded_is (minus x y) (minus (padded x) (padded y)) (minus_parts width (padded x) (padded y) (length_padded x) (length_padded y)) (λ k h. part_minus x y k ∙ sym (part_minus (padded x) (padded y) k ∙ ap₂ (λ a b. a -ℤ b) (part_padded x k h) (part_padded y k h)))

pub padded_negative : (x : List ℤ) → padded (negative x) ≡ negative (padded x)
padded_negative x =
    padded_is (negative x) (negative (padded x)) (length_negative (padded x) ∙ length_padded x) (λ k h. part_negative x k ∙ sym (part_negative (padded x) k ∙ ap neg_ℤ (part_padded x k h)))

pub padded_zeros : (d : ℕ) → padded (zeros d) ≡ zeros width
padded_zeros d =
    padded_is (zeros d) (zeros width) (length-replicate width (pos 0)) (λ k h. part_zeros d k ∙ sym (part_zeros width k))

-- two elements of one degree, at most four, with the same four parts
pub padded_same : (x y : List ℤ) → length x ≡ length y → length x ≤ width → padded x ≡ padded y → x ≡ y
padded_same x y long fits e =
    ext_get_or (pos 0) x y long (λ k h. sym (part_padded x k (omega arith)) ∙ ap (λ z. part z k) e ∙ part_padded y k (omega arith))

-- four parts of which the first i are set: those of n functions' values, and one more
pub padded_more : (f : ℕ → ℤ) (i : ℕ) → i < width → set (padded (span f 0 i)) i (f i) ≡ padded (span f 0 (i + 1))
padded_more f i h =
    sym (padded_is (span f 0 (i + 1)) (set (padded (span f 0 i)) i (f i)) (length-set (padded (span f 0 i)) i (f i) ∙ length_padded (span f 0 i)) parts)
  where
    value : (n k : ℕ) → k < n → part (span f 0 n) k ≡ f k
    value n k l = get_d_span f 0 n k (pos 0) l ∙ ap f (zero-add k)

    past : (n k : ℕ) → n ≤ k → part (span f 0 n) k ≡ pos 0
    past n k l = get_or-eq_default (span f 0 n) (pos 0) (omega (arith, length_span f 0 n))

    other : (k : ℕ) → k < width → (k ≡ i → ⊥) → part (set (padded (span f 0 i)) i (f i)) k ≡ part (span f 0 i) k
    other k l e = get_or-set_other (padded (span f 0 i)) i k (f i) (pos 0) e ∙ part_padded (span f 0 i) k l

    parts : (k : ℕ) → k < width → part (span f 0 (i + 1)) k ≡ part (set (padded (span f 0 i)) i (f i)) k
    parts k l =
        elim (ℕ_discrete k i) [
          | yes e ↦ value (i + 1) k (omega arith) ∙ ap f e ∙ sym (get_or-set_same (padded (span f 0 i)) i (f i) (pos 0) (omega (arith, length_padded (span f 0 i)))) ∙ ap (part (set (padded (span f 0 i)) i (f i))) (sym e)
          | no e ↦ elim (dec_lt k i) [
            | yes m ↦ value (i + 1) k (omega arith) ∙ sym (value i k m) ∙ sym (other k l e)
            | no m ↦ past (i + 1) k (omega arith) ∙ sym (past i k (omega arith)) ∙ sym (other k l e)
          ]
        ]

-- the same for a loop that writes the next one
pub padded_stored : (f : ℕ → ℤ) (i : ℕ) (all : List ℤ) (z : ℤ) → all ≡ padded (span f 0 i) → i < width → SFits w64 z → z ≡ f i → set all i (to_z w64 (of_z w64 z)) ≡ padded (span f 0 (i + 1))
padded_stored f i all z so_far h fits is =
    ap₂ (λ x y. set x i y) so_far (to_z-of_z w64 z fits ∙ is) ∙ padded_more f i h

-- ---- rows of four

pub length_padded_rows : (m : List (List ℤ)) → length (padded_rows m) ≡ width
unfolding padded_rows
length_padded_rows m = length_span (λ i. padded (get_or m i [])) 0 width

pub row_padded : (m : List (List ℤ)) (i : ℕ) → i < width → get_or (padded_rows m) i [] ≡ padded (get_or m i [])
unfolding padded_rows
row_padded m i h =
    get_d_span (λ j. padded (get_or m j [])) 0 width i [] h ∙ ap (λ (j : ℕ). padded (get_or m j [])) (zero-add i)

-- the first d of four
take_four : {A : Type 0} (f : ℕ → A) (d : ℕ) → d ≤ width → take d (span f 0 width) ≡ span f 0 d
take_four f d h =
    let four : width ≡ d + (width - d) = omega arith in
    ap (λ (n : ℕ). take d (span f 0 n)) four ∙ take_span f 0 d (width - d)

pub take_padded : (d : ℕ) (x : List ℤ) → d ≤ width → length x ≡ d → take d (padded x) ≡ x
unfolding padded
take_padded d x fits h = take_four (part x) d fits ∙ sym (listed (pos 0) d x h)

-- d rows of d entries are the corner of the four that they are padded to
pub corner_padded : (d : ℕ) (m : List (List ℤ)) → d ≤ width → length m ≡ d → ((i : ℕ) → i < d → length (get_or m i []) ≡ d) → corner d (padded_rows m) ≡ m
unfolding corner padded_rows
corner_padded d m fits h rows =
    ap (map (take d)) (take_four (λ i. padded (get_or m i [])) d fits)
    ∙ map_span (take d) (λ i. padded (get_or m i [])) 0 d
    ∙ span_ext (λ i. take d (padded (get_or m i []))) (λ i. get_or m i []) 0 0 d (λ k l. rw zero-add (take_padded d (get_or m k []) fits (rows k l)))
    ∙ sym (listed [] d m h)

pub row_corner : (d : ℕ) (m : List (List ℤ)) (i : ℕ) → get_or (corner d m) i [] ≡ take d (get_or (take d m) i [])
unfolding corner
row_corner d m i = ap (get_or (map (take d) (take d m)) i) (sym (take-nil d)) ∙ get_or-map (take d) (take d m) i []

length_row_corner : (d : ℕ) (m : List (List ℤ)) (i : ℕ) → length (get_or (corner d m) i []) ≤ d
length_row_corner d m i = rw (row_corner d m i) (omega (arith, length-take d (get_or (take d m) i [])))

-- ---- multiplication by the base

pub length_padded_times : (d : ℕ) (m : List (List ℤ)) (x : List ℤ) → length (padded_times d m x) ≡ width
unfolding padded_times
length_padded_times d m x = length_padded (times (corner d m) x)

pub padded_times_plus : (d : ℕ) (m : List (List ℤ)) (x y : List ℤ) → padded_times d m (plus x y) ≡ plus (padded_times d m x) (padded_times d m y)
unfolding padded_times
padded_times_plus d m x y =
    ap padded (times_plus (corner d m) x y) ∙ padded_plus (times (corner d m) x) (times (corner d m) y)

pub padded_times_negative : (d : ℕ) (m : List (List ℤ)) (x : List ℤ) → padded_times d m (negative x) ≡ negative (padded_times d m x)
unfolding padded_times
padded_times_negative d m x = ap padded (times_negative (corner d m) x) ∙ padded_negative (times (corner d m) x)

times_parts : (d : ℕ) (m : List (List ℤ)) (x y : List ℤ) → ((i : ℕ) → i < length m → length (get_or m i []) ≤ d) → ((k : ℕ) → k < d → part x k ≡ part y k) → times m x ≡ times m y
unfolding times
times_parts d [] x y rows h = refl
times_parts d (row ∷ m) x y rows h =
    cons≡ (dot_parts row x y (λ k l. h k (omega (arith, rows 0 (omega arith))))) (times_parts d m x y (λ i l. rows (suc i) (omega arith)) h)

-- d rows of d entries times an element, padded, is the padded rows times the padded element
pub padded_times_lem : (d : ℕ) (m : List (List ℤ)) (x : List ℤ) → d ≤ width → length m ≡ d → ((i : ℕ) → i < d → length (get_or m i []) ≡ d) → padded_times d (padded_rows m) (padded x) ≡ padded (times m x)
unfolding padded_times
padded_times_lem d m x fits h rows =
    ap (λ c. padded (times c (padded x))) (corner_padded d m fits h rows)
    ∙ ap padded (times_parts d m (padded x) x (λ i l. omega (arith, rows i (omega arith))) (λ k l. part_padded x k (omega arith)))

-- β · x of any degree up to four, on four parts
pub padded_product : (r β x : List ℤ) → 1 ≤ length r → length r ≤ width → length β ≡ length r → length x ≡ length r → padded_times (length r) (padded_matrix r β) (padded x) ≡ padded (product r β x)
unfolding padded_matrix
padded_product r β x positive fits h k =
    padded_times_lem (length r) (matrix_of r β) x fits (length_matrix r β) (length_row r β) ∙ ap padded (matrix_product r positive β x h k)

-- row by row
pub padded_times_rows : (d : ℕ) (m : List (List ℤ)) (x : List ℤ) → d ≤ width → length m ≡ width → padded_times d m x ≡ padded (span (λ i. dot (take d (get_or m i [])) x) 0 d)
unfolding padded_times times corner
padded_times_rows d m x fits h =
    let rows : take d m ≡ span (λ i. get_or m i []) 0 d = ap (take d) (listed [] width m h) ∙ take_four (λ i. get_or m i []) d fits in
    ap (λ r. padded (map (λ row. dot row x) (map (take d) r))) rows
    ∙ ap (λ r. padded (map (λ row. dot row x) r)) (map_span (take d) (λ i. get_or m i []) 0 d)
    ∙ ap padded (map_span (λ row. dot row x) (λ i. take d (get_or m i [])) 0 d)

-- ---- sizes

-- what holds of all entries and of what stands for a missing one holds of the first d
pub taken : {A : Type 0} (P : A → Type 0) (z : A) → P z → (d : ℕ) (l : List A) → ((i : ℕ) → P (get_or l i z)) → (i : ℕ) → P (get_or (take d l) i z)
taken P z h zero l all i = h
taken P z h (suc d) [] all i = h
taken P z h (suc d) (a ∷ l) all zero = all 0
taken P z h (suc d) (a ∷ l) all (suc i) = taken P z h d l (λ j. all (suc j)) i

pub within_none : (n : ℕ) → Within n []
unfolding Within
within_none n k = zero-le

pub within_take : (n d : ℕ) (x : List ℤ) → Within n x → Within n (take d x)
unfolding Within
within_take n d x h = taken (λ z. nat_abs z ≤ n) (pos 0) zero-le d x h

rows_within_corner : (n d : ℕ) (m : List (List ℤ)) → RowsWithin n m → RowsWithin n (corner d m)
unfolding RowsWithin
rows_within_corner n d m h i =
    subst (Within n) (sym (row_corner d m i)) (within_take n d (get_or (take d m) i []) (taken (Within n) [] (within_none n) d m h i))

-- what holds of all parts and of zero holds of the four
padded_part : (P : ℤ → Type 0) → P (pos 0) → (x : List ℤ) (k : ℕ) → P (part x k) → P (part (padded x) k)
padded_part P z x k h =
    elim (dec_lt k width) [
      | yes l ↦ rw (part_padded x k l) h
      | no l ↦ rw (part_above x k (omega arith)) z
    ]

pub padded_entry : (P : ℤ → Type 0) → P (pos 0) → (m : List (List ℤ)) (i k : ℕ) → P (part (get_or m i []) k) → P (part (get_or (padded_rows m) i []) k)
padded_entry P z m i k h =
    elim (dec_lt i width) [
      | yes l ↦ rw (row_padded m i l) (padded_part P z (get_or m i []) k h)
      | no l ↦ rw (get_or-eq_default (padded_rows m) [] {n = i} (omega (arith, length_padded_rows m))) z
    ]

pub within_padded : (n : ℕ) (x : List ℤ) → Within n x → Within n (padded x)
unfolding Within
within_padded n x h k = padded_part (λ z. nat_abs z ≤ n) zero-le x k (h k)

pub rows_within_padded : (n : ℕ) (m : List (List ℤ)) → RowsWithin n m → RowsWithin n (padded_rows m)
unfolding Within RowsWithin
rows_within_padded n m h i k = padded_entry (λ z. nat_abs z ≤ n) zero-le m i k (h i k)

-- entries of size m, by an element of size n
pub within_padded_times : (d m n : ℕ) (mat : List (List ℤ)) (x : List ℤ) → RowsWithin m mat → Within n x → Within (d * (m * n)) (padded_times d mat x)
unfolding padded_times
within_padded_times d m n mat x h k =
    within_padded (d * (m * n)) (times (corner d mat) x) (within_times d m n (corner d mat) x (λ i. length_row_corner d mat i) (rows_within_corner m d mat h) k)
