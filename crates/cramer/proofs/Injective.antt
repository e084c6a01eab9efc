-- A determinant other than zero makes multiplication by the base injective, at every degree: by Cramer's identities, the determinant
-- times each part of an element is a sum of the parts of its product, each so many times.
use mathlib.Core.Path.{◌≡◌, refl, sym, ap, ap₂, ◌∙◌}
use mathlib.Core.Bool.{true}
use mathlib.Core.List.{List, [], ◌∷◌}
use Prim.Native.Nat.{ℕ, zero, suc, ◌+◌, ◌*◌, ◌<◌, ◌≤◌}
use native.Mathlib.Omega.{arith}
use native.Mathlib.Nat.{suc-mul}
use lib.Dec.{lit≤}
use lib.ListN.{length, get_or, take, get_or-map}
use lib.Seq.{get_or-take}
use lib.IntN.{ℤ, pos, negsuc, nat_abs, ◌+ℤ◌, ◌-ℤ◌, ◌*ℤ◌, +ℤ_invr, *ℤ-zero}
use Rattle.lists.proofs.Each.{Each, each}
use Rattle.integers.proofs.Laws.{ -zero→≡}
use Rattle.integers.proofs.Size.{nat_abs-*, no_size}
use Rattle.integers.proofs.Solver.{Expression, var, num, ◌⊕◌, ◌⊖◌, ◌⊗◌, meaning, solve}
use Rattle.ring.specs.declared.Degree.{Degree}
use Rattle.ring.specs.declared.Degree.TheVariants.{Two, Three, Four}
use Rattle.ring.specs.Degree.{part_count}
use Rattle.ring.specs.Element.{part}
use Rattle.ring.specs.Matrix.{dot, times}
use Rattle.ring.specs.Padded.{width, corner, padded_times}
use Rattle.ring.specs.Determinant.{determinant}
use Rattle.ring.proofs.Matrix.{dot_next}
use Rattle.ring.proofs.Padded.{part_padded, row_corner}
use Rattle.ring.proofs.Determinant.{two_by_minors, three_by_minors, four_by_minors}

-- ---- sums of products

-- the first n entries times the first n parts
sum : ℕ → (ℕ → ℤ) → (ℕ → ℤ) → ℤ
sum zero a z = pos 0
sum (suc n) a z = sum n a z +ℤ a n *ℤ z n

dot_sum : (n : ℕ) (row x : List ℤ) → dot (take n row) x ≡ sum n (part row) (part x)
unfolding dot sum
dot_sum zero row x = refl
dot_sum (suc n) row x = dot_next n row x ∙ ap (λ s. s +ℤ part row n *ℤ part x n) (dot_sum n row x)

sum_difference : (n : ℕ) (a x y : ℕ → ℤ) → sum n a (λ k. x k -ℤ y k) ≡ sum n a x -ℤ sum n a y
unfolding sum
sum_difference zero a x y = refl
sum_difference (suc n) a x y =
    ap (λ s. s +ℤ a n *ℤ (x n -ℤ y n)) (sum_difference n a x y) ∙ solve (sum n a x ∷ sum n a y ∷ a n ∷ x n ∷ y n ∷ []) (var 0 ⊖ var 1 ⊕ var 2 ⊗ (var 3 ⊖ var 4)) (var 0 ⊕ var 2 ⊗ var 3 ⊖ (var 1 ⊕ var 2 ⊗ var 4)) refl

-- a product that is zero, of which one factor isn't
other_zero : (D v : ℤ) → ¬ (D ≡ pos 0) → D *ℤ v ≡ pos 0 → v ≡ pos 0
other_zero D v some h = no_size v (small (nat_abs D) (nat_abs v) (λ e. some (no_size D e)) (sym (nat_abs-* D v) ∙ ap nat_abs h))
  where
    small : (m n : ℕ) → ¬ (m ≡ 0) → m * n ≡ 0 → n ≡ 0
    small zero n nonzero e = absurd (nonzero refl)
    small (suc m) n nonzero e = omega (arith, suc-mul m n)

-- ---- Cramer's identities, in 16 entries and 4 parts

abbrev E : ℕ → ℕ → Expression
E i k = var (4 * i + k)

abbrev Z : ℕ → Expression
Z k = var (16 + k)

-- part i of the product, of degree n
abbrev R : ℕ → ℕ → Expression
R zero i = num (pos 0)
R (suc n) i = R n i ⊕ E i n ⊗ Z n

-- rows i and j by columns p and q, and three rows by three columns
abbrev P : ℕ → ℕ → ℕ → ℕ → Expression
P i j p q = E i p ⊗ E j q ⊖ E i q ⊗ E j p

abbrev Q : ℕ → ℕ → ℕ → ℕ → ℕ → ℕ → Expression
Q h i j p q r = E h p ⊗ P i j q r ⊖ E h q ⊗ P i j p r ⊕ E h r ⊗ P i j p q

abbrev D₂ : Expression
D₂ = P 0 1 0 1

abbrev D₃ : Expression
D₃ = P 0 1 0 1 ⊗ E 2 2 ⊖ P 0 1 0 2 ⊗ E 2 1 ⊕ P 0 1 1 2 ⊗ E 2 0

abbrev D₄ : Expression
D₄ =
    P 0 1 0 1 ⊗ P 2 3 2 3 ⊖ P 0 1 0 2 ⊗ P 2 3 1 3 ⊕ P 0 1 0 3 ⊗ P 2 3 1 2 ⊕ P 0 1 1 2 ⊗ P 2 3 0 3 ⊖ P 0 1 1 3 ⊗ P 2 3 0 2 ⊕ P 0 1 2 3 ⊗ P 2 3 0 1

-- parts of the product, each so many times
abbrev S : ℕ → ℕ → ℕ → Expression → Expression → Expression → Expression → Expression
S n k l c d e f = c ⊗ R n 0 ⊖ d ⊗ R n 1 ⊕ e ⊗ R n k ⊖ f ⊗ R n l

-- for the part in column k, where k with the other columns is an even order of all
abbrev S₂ : ℕ → Expression → Expression
S₂ p sign = S 2 0 0 (sign ⊗ E 1 p) (sign ⊗ E 0 p) (num (pos 0)) (num (pos 0))

abbrev S₃ : ℕ → ℕ → Expression
S₃ p q = S 3 2 0 (P 1 2 p q) (P 0 2 p q) (P 0 1 p q) (num (pos 0))

abbrev S₄ : ℕ → ℕ → ℕ → Expression
S₄ p q r = S 4 2 3 (Q 1 2 3 p q r) (Q 0 2 3 p q r) (Q 0 1 3 p q r) (Q 0 1 2 p q r)

module _ (a : ℕ → ℕ → ℤ) (z : ℕ → ℤ) where
  abbrev numbers : List ℤ
  numbers =
      a 0 0 ∷ a 0 1 ∷ a 0 2 ∷ a 0 3 ∷ a 1 0 ∷ a 1 1 ∷ a 1 2 ∷ a 1 3 ∷ a 2 0 ∷ a 2 1 ∷ a 2 2 ∷ a 2 3 ∷ a 3 0 ∷ a 3 1 ∷ a 3 2 ∷ a 3 3 ∷ z 0 ∷ z 1 ∷ z 2 ∷ z 3 ∷ []

  abbrev value : Expression → ℤ
  value = meaning numbers

  -- where the parts of the product are zero, and the determinant isn't
  module _ (n : ℕ) (D : Expression) (some : ¬ (value D ≡ pos 0)) (none : Each (λ i. value (R n i) ≡ pos 0) n) where
    row_none : (i : ℕ) → i < n → value (R n i) ≡ pos 0
    row_none = each (λ i. value (R n i) ≡ pos 0) n none

    part_zero : (k l : ℕ) (c d e f : Expression) (v : ℤ) → 1 < n → k < n → l < n → value D *ℤ v ≡ value (S n k l c d e f) → v ≡ pos 0
    part_zero k l c d e f v h i j cramer =
        other_zero (value D) v some (cramer ∙ (λ t. value c *ℤ row_none 0 (omega arith) t -ℤ value d *ℤ row_none 1 h t +ℤ value e *ℤ row_none k i t -ℤ value f *ℤ row_none l j t) ∙ simp *ℤ-zero)

  zeros₂ : ¬ (value D₂ ≡ pos 0) → Each (λ i. value (R 2 i) ≡ pos 0) 2 → Each (λ k. z k ≡ pos 0) 2
  zeros₂ some none =
      ((tt, column 1 (num (pos 1)) (z 0) (solve numbers (D₂ ⊗ Z 0) (S₂ 1 (num (pos 1))) (refl {a = true}))), column 0 (num (negsuc 0)) (z 1) (solve numbers (D₂ ⊗ Z 1) (S₂ 0 (num (negsuc 0))) (refl {a = true})))
    where
      column : (p : ℕ) (sign : Expression) (v : ℤ) → value D₂ *ℤ v ≡ value (S₂ p sign) → v ≡ pos 0
      column p sign v =
          part_zero 2 D₂ some none 0 0 (sign ⊗ E 1 p) (sign ⊗ E 0 p) (num (pos 0)) (num (pos 0)) v (lit≤ tt) (lit≤ tt) (lit≤ tt)

  zeros₃ : ¬ (value D₃ ≡ pos 0) → Each (λ i. value (R 3 i) ≡ pos 0) 3 → Each (λ k. z k ≡ pos 0) 3
  zeros₃ some none =
      (((tt, column 1 2 (z 0) (solve numbers (D₃ ⊗ Z 0) (S₃ 1 2) (refl {a = true}))), column 2 0 (z 1) (solve numbers (D₃ ⊗ Z 1) (S₃ 2 0) (refl {a = true}))), column 0 1 (z 2) (solve numbers (D₃ ⊗ Z 2) (S₃ 0 1) (refl {a = true})))
    where
      column : (p q : ℕ) (v : ℤ) → value D₃ *ℤ v ≡ value (S₃ p q) → v ≡ pos 0
      column p q v =
          part_zero 3 D₃ some none 2 0 (P 1 2 p q) (P 0 2 p q) (P 0 1 p q) (num (pos 0)) v (lit≤ tt) (lit≤ tt) (lit≤ tt)

  zeros₄ : ¬ (value D₄ ≡ pos 0) → Each (λ i. value (R 4 i) ≡ pos 0) 4 → Each (λ k. z k ≡ pos 0) 4
  zeros₄ some none =
      ((((tt, column 1 2 3 (z 0) (solve numbers (D₄ ⊗ Z 0) (S₄ 1 2 3) (refl {a = true}))), column 0 3 2 (z 1) (solve numbers (D₄ ⊗ Z 1) (S₄ 0 3 2) (refl {a = true}))), column 3 0 1 (z 2) (solve numbers (D₄ ⊗ Z 2) (S₄ 3 0 1) (refl {a = true}))), column 2 1 0 (z 3) (solve numbers (D₄ ⊗ Z 3) (S₄ 2 1 0) (refl {a = true})))
    where
      column : (p q r : ℕ) (v : ℤ) → value D₄ *ℤ v ≡ value (S₄ p q r) → v ≡ pos 0
      column p q r v =
          part_zero 4 D₄ some none 2 3 (Q 1 2 3 p q r) (Q 0 2 3 p q r) (Q 0 1 3 p q r) (Q 0 1 2 p q r) v (lit≤ tt) (lit≤ tt) (lit≤ tt)

-- ---- elements

module _ (m : List (List ℤ)) (four : length m ≡ width) (x y : List ℤ) where
  abbrev entry : ℕ → ℕ → ℤ
  entry i k = part (get_or m i []) k

  abbrev apart : ℕ → ℤ
  apart k = part x k -ℤ part y k

  product_part : (d i : ℕ) (w : List ℤ) → d ≤ width → i < d → part (padded_times d m w) i ≡ sum d (entry i) (part w)
  unfolding padded_times times dot
  product_part d i w fits h =
      part_padded (times (corner d m) w) i (omega arith)
      ∙ get_or-map (λ row. dot row w) (corner d m) i []
      ∙ ap (λ row. dot row w) (row_corner d m i ∙ ap (take d) (get_or-take d m i [] h))
      ∙ dot_sum d (get_or m i []) w

  -- equal products: each row's sum of the differences is zero
  row_zero : (d i : ℕ) → d ≤ width → i < d → padded_times d m x ≡ padded_times d m y → sum d (entry i) apart ≡ pos 0
  row_zero d i fits h e =
      sum_difference d (entry i) (part x) (part y)
      ∙ ap₂ (λ u v. u -ℤ v) (sym (product_part d i x fits h)) (sym (product_part d i y fits h) ∙ ap (λ z. part z i) (sym e))
      ∙ +ℤ_invr (part (padded_times d m x) i)

  -- elements with equal products have equal parts
  pub same_parts : (degree : Degree) → ¬ (determinant (part_count degree) (corner (part_count degree) m) ≡ pos 0) → padded_times (part_count degree) m x ≡ padded_times (part_count degree) m y → (k : ℕ) → k < part_count degree → part x k ≡ part y k
  unfolding sum
  same_parts degree some e k h = -zero→≡ (part x k) (part y k) (each (λ j. apart j ≡ pos 0) (part_count degree) (zeros degree some e) k h)
    where
      zeros : (degree : Degree) → ¬ (determinant (part_count degree) (corner (part_count degree) m) ≡ pos 0) → padded_times (part_count degree) m x ≡ padded_times (part_count degree) m y → Each (λ j. apart j ≡ pos 0) (part_count degree)
      zeros Two some e =
          let r : (i : ℕ) → i < 2 → sum 2 (entry i) apart ≡ pos 0 = λ i l. row_zero 2 i (lit≤ tt) l e in
          zeros₂ entry apart (λ z. some (two_by_minors m four ∙ z)) ((tt, r 0 (lit≤ tt)), r 1 (lit≤ tt))
      zeros Three some e =
          let r : (i : ℕ) → i < 3 → sum 3 (entry i) apart ≡ pos 0 = λ i l. row_zero 3 i (lit≤ tt) l e in
          zeros₃ entry apart (λ z. some (three_by_minors m four ∙ z)) (((tt, r 0 (lit≤ tt)), r 1 (lit≤ tt)), r 2 (lit≤ tt))
      zeros Four some e =
          let r : (i : ℕ) → i < 4 → sum 4 (entry i) apart ≡ pos 0 = λ i l. row_zero 4 i (lit≤ tt) l e in
          zeros₄ entry apart (λ z. some (four_by_minors m four ∙ z)) ((((tt, r 0 (lit≤ tt)), r 1 (lit≤ tt)), r 2 (lit≤ tt)), r 3 (lit≤ tt))
