-- Matrices: matrix times element is additive and keeps negatives, and the matrix that belongs to β times x is the product β · x, for every degree.
use mathlib.Core.Path.{◌≡◌, refl, sym, ap, ◌∙◌}
use mathlib.Core.List.{List, [], ◌∷◌, map}
use Prim.Native.Nat.{ℕ, zero, suc, ◌+◌, ◌*◌, ◌<◌, ◌≤◌, zero-le}
use native.Mathlib.Omega.{arith}
use native.Mathlib.Nat.{suc-mul, le_trans, mul-le-mul_right}
use lib.ListN.{length, get_or, take, drop, length-map}
use lib.IntN.{ℤ, pos, nat_abs, neg_ℤ, ◌+ℤ◌, ◌*ℤ◌, +ℤ_idl, +ℤ_idr, +ℤ_comm, +ℤ_assoc, neg_ℤ-+ℤ, *ℤ_comm, *ℤ-zero, zero-*ℤ}
use Rattle.lists.specs.Span.{span}
use Rattle.lists.proofs.Cons.{cons≡}
use Rattle.lists.proofs.Span.{span_ext, span_get_d, map_span, length_span, get_d_span}
use Rattle.integers.proofs.Laws.{*-distrib, *-neg, +-cross}
use Rattle.integers.proofs.Size.{nat_abs-+, nat_abs-*≤}
use Rattle.ring.specs.Element.{part, zeros, plus, negative}
use Rattle.ring.specs.Product.{scale, times_omega, product, columns, matrix_of}
use Rattle.ring.specs.Tests.{Within, RowsWithin}
use Rattle.ring.specs.Matrix.{dot, times}
use Rattle.ring.proofs.Element.{part_plus, part_scale, part_zeros}
use Rattle.ring.proofs.Product.{product_omega, product_comm, length_product}

-- ---- matrix times element

dot_nil : (row : List ℤ) → dot row [] ≡ pos 0
unfolding dot
dot_nil [] = refl
dot_nil (a ∷ row) = refl

pub dot_plus : (row x y : List ℤ) → dot row (plus x y) ≡ dot row x +ℤ dot row y
unfolding dot plus
dot_plus [] x y = refl
dot_plus (a ∷ row) [] y = sym (+ℤ_idl (dot (a ∷ row) y))
dot_plus (a ∷ row) (b ∷ x) [] = sym (+ℤ_idr (dot (a ∷ row) (b ∷ x)))
dot_plus (a ∷ row) (b ∷ x) (c ∷ y) =
    rw (dot_plus row x y, *-distrib a b c) (+-cross (a *ℤ b) (a *ℤ c) (dot row x) (dot row y))

dot_negative : (row x : List ℤ) → dot row (negative x) ≡ neg_ℤ (dot row x)
unfolding dot negative
dot_negative [] x = refl
dot_negative (a ∷ row) [] = refl
dot_negative (a ∷ row) (b ∷ x) = rw (dot_negative row x, *-neg a b, neg_ℤ-+ℤ (a *ℤ b) (dot row x))

dot_step : (a : ℤ) (row x : List ℤ) → dot (a ∷ row) x ≡ a *ℤ part x 0 +ℤ dot row (drop 1 x)
unfolding dot
dot_step a row [] = rw (*ℤ-zero a, dot_nil row)
dot_step a row (b ∷ x) = refl

pub part_rest : (x : List ℤ) (k : ℕ) → part (drop 1 x) k ≡ part x (suc k)
part_rest [] k = refl
part_rest (a ∷ x) k = refl

-- a row sees as many parts as it has entries
pub dot_parts : (row x y : List ℤ) → ((k : ℕ) → k < length row → part x k ≡ part y k) → dot row x ≡ dot row y
unfolding dot
dot_parts [] x y h = refl
dot_parts (a ∷ row) x y h =
    rw (dot_step a row x, dot_step a row y, h 0 (omega arith), dot_parts row (drop 1 x) (drop 1 y) (λ k l. part_rest x k ∙ h (suc k) (omega arith) ∙ sym (part_rest y k)))

-- one entry more
pub dot_next : (n : ℕ) (row x : List ℤ) → dot (take (suc n) row) x ≡ dot (take n row) x +ℤ part row n *ℤ part x n
unfolding dot
dot_next zero [] x = rw (zero-*ℤ (part x 0))
dot_next (suc n) [] x = rw (zero-*ℤ (part x (suc n)))
dot_next zero (a ∷ row) x = dot_step a [] x ∙ +ℤ_comm (a *ℤ part x 0) (pos 0)
dot_next (suc n) (a ∷ row) x =
    rw (dot_step a (take (suc n) row) x, dot_step a (take n row) x, dot_next n row (drop 1 x), part_rest x n) (sym (+ℤ_assoc (a *ℤ part x 0) (dot (take n row) (drop 1 x)) (part row n *ℤ part x (suc n))))

pub times_plus : (m : List (List ℤ)) (x y : List ℤ) → times m (plus x y) ≡ plus (times m x) (times m y)
unfolding times plus
times_plus [] x y = refl
times_plus (row ∷ m) x y = cons≡ (dot_plus row x y) (times_plus m x y)

pub times_negative : (m : List (List ℤ)) (x : List ℤ) → times m (negative x) ≡ negative (times m x)
unfolding times negative
times_negative [] x = refl
times_negative (row ∷ m) x = cons≡ (dot_negative row x) (times_negative m x)

-- an element for each row
pub length_times : (m : List (List ℤ)) (x : List ℤ) → length (times m x) ≡ length m
unfolding times
length_times m x = length-map m (λ row. dot row x)

-- ---- the matrix of a product

-- the columns, each as often as x says
combined : ℕ → List (List ℤ) → List ℤ → List ℤ
combined d [] x = zeros d
combined d (c ∷ cs) [] = zeros d
combined d (c ∷ cs) (a ∷ x) = plus (scale a c) (combined d cs x)

part_combined : (d : ℕ) (cs : List (List ℤ)) (x : List ℤ) (i : ℕ) → part (combined d cs x) i ≡ dot (map (λ c. part c i) cs) x
unfolding combined dot
part_combined d [] x i = part_zeros d i
part_combined d (c ∷ cs) [] i = part_zeros d i
part_combined d (c ∷ cs) (a ∷ x) i =
    rw (part_plus (scale a c) (combined d cs x) i, part_scale a c i, part_combined d cs x i, *ℤ_comm a (part c i))

module _ (r : List ℤ) (positive : 1 ≤ length r) where
  product_combined : (x β : List ℤ) → product r x β ≡ combined (length r) (columns r (length x) β) x
  unfolding product combined columns
  product_combined [] β = refl
  product_combined (a ∷ x) β =
      ap (plus (scale a β)) (sym (product_omega r positive x β) ∙ product_combined x (times_omega r β))

  -- the matrix that belongs to β, times x, is β · x
  pub matrix_product : (β x : List ℤ) → length β ≡ length r → length x ≡ length r → times (matrix_of r β) x ≡ product r β x
  unfolding times matrix_of
  matrix_product β x h k =
      map_span (λ row. dot row x) (λ i. map (λ column. part column i) (columns r (length r) β)) 0 (length r) ∙ span_ext _ (part (product r x β)) 0 0 (length r) (λ i l. entry (0 + i)) ∙ ap (span (part (product r x β)) 0) (sym (length_product r positive x β h)) ∙ span_get_d (product r x β) (pos 0) ∙ product_comm r positive x β k h
    where
      entry : (i : ℕ) → dot (map (λ column. part column i) (columns r (length r) β)) x ≡ part (product r x β) i
      entry i =
          ap (λ n. dot (map (λ column. part column i) (columns r n β)) x) (sym k) ∙ sym (part_combined (length r) (columns r (length x) β) x i) ∙ ap (λ y. part y i) (sym (product_combined x β))

pub length_matrix : (r β : List ℤ) → length (matrix_of r β) ≡ length r
unfolding matrix_of
length_matrix r β = length_span _ 0 (length r)

pub length_columns : (r : List ℤ) (n : ℕ) (β : List ℤ) → length (columns r n β) ≡ n
unfolding columns
length_columns r zero β = refl
length_columns r (suc n) β = ap suc (length_columns r n (times_omega r β))

-- each row has an entry of each column
pub length_row : (r β : List ℤ) (i : ℕ) → i < length r → length (get_or (matrix_of r β) i []) ≡ length r
unfolding matrix_of
length_row r β i h =
    ap length (get_d_span (λ k. map (λ column. part column k) (columns r (length r) β)) 0 (length r) i [] h) ∙ length-map (columns r (length r) β) (λ column. part column (0 + i)) ∙ length_columns r (length r) β

-- ---- sizes

dot_size : (m n : ℕ) (row x : List ℤ) → Within m row → Within n x → nat_abs (dot row x) ≤ length row * (m * n)
unfolding dot Within
dot_size m n [] x h k = zero-le
dot_size m n (a ∷ row) [] h k = zero-le
dot_size m n (a ∷ row) (b ∷ x) h k =
    rw (suc-mul (length row) (m * n)) (omega (arith, nat_abs-+ (a *ℤ b) (dot row x), nat_abs-*≤ a b m n (h 0) (k 0), dot_size m n row x (λ i. h (suc i)) (λ i. k (suc i))))

-- a row of d entries of size m, by an element of size n
pub within_times : (d m n : ℕ) (mat : List (List ℤ)) (x : List ℤ) → ((i : ℕ) → length (get_or mat i []) ≤ d) → RowsWithin m mat → Within n x → Within (d * (m * n)) (times mat x)
unfolding Within RowsWithin times
within_times d m n [] x l h k i = zero-le
within_times d m n (row ∷ mat) x l h k zero = le_trans (dot_size m n row x (h 0) k) (mul-le-mul_right (m * n) (l 0))
within_times d m n (row ∷ mat) x l h k (suc i) = within_times d m n mat x (λ j. l (suc j)) (λ j. h (suc j)) k i
