-- Determinant and trace in other words, and as the code computes the determinant.
use mathlib.Core.Path.{◌≡◌, refl, sym, ap, ap₂, ◌∙◌}
use mathlib.Core.Bool.{true}
use mathlib.Core.List.{List, [], ◌∷◌, map}
use Prim.Native.Nat.{ℕ, zero, suc, ◌<◌, ◌≤◌, min}
use native.Mathlib.Omega.{arith}
use native.Mathlib.Nat.{zero-add}
use native.Mathlib.Decide.{dec_lt}
use lib.Dec.{lit≤}
use lib.ListN.{length, get_or, take, length-take, length-map, get_or-eq_default}
use lib.Seq.{get_or-take}
use lib.IntN.{ℤ, pos, ◌+ℤ◌, ◌-ℤ◌, ◌*ℤ◌, +ℤ_idr}
use Rattle.lists.specs.Span.{span}
use Rattle.lists.proofs.Span.{span_ext}
use Rattle.integers.proofs.Solver.{Expression, var, num, ◌⊕◌, ◌⊖◌, ◌⊗◌, solve}
use Rattle.ring.specs.Element.{part}
use Rattle.ring.specs.Padded.{width, padded, padded_rows, corner}
use Rattle.ring.specs.Determinant.{trace, alternating, without, determinant, minor}
use Rattle.ring.proofs.Matrix.{part_rest}
use Rattle.ring.proofs.Padded.{part_padded, length_padded_rows, row_padded, row_corner}

-- two rows, as the determinant goes through them
two : Expression → Expression → Expression → Expression → Expression
two a b c d = a ⊗ (d ⊗ num (pos 1) ⊖ num (pos 0)) ⊖ (b ⊗ (c ⊗ num (pos 1) ⊖ num (pos 0)) ⊖ num (pos 0))

pub determinant_of_two : (a b c d : ℤ) → determinant 2 ((a ∷ b ∷ []) ∷ (c ∷ d ∷ []) ∷ []) ≡ a *ℤ d -ℤ b *ℤ c
unfolding determinant alternating without span two
determinant_of_two a b c d =
    solve (a ∷ b ∷ c ∷ d ∷ []) (two (var 0) (var 1) (var 2) (var 3)) (var 0 ⊗ var 3 ⊖ var 1 ⊗ var 2) refl

-- of three rows: a(ei − fh) − b(di − fg) + c(dh − eg)
pub determinant_of_three : (a b c d e f g h i : ℤ) → determinant 3 ((a ∷ b ∷ c ∷ []) ∷ (d ∷ e ∷ f ∷ []) ∷ (g ∷ h ∷ i ∷ []) ∷ []) ≡ a *ℤ (e *ℤ i -ℤ f *ℤ h) -ℤ b *ℤ (d *ℤ i -ℤ f *ℤ g) +ℤ c *ℤ (d *ℤ h -ℤ e *ℤ g)
unfolding determinant alternating without span two
determinant_of_three a b c d e f g h i =
    let A = var 0 in
    let B = var 1 in
    let C = var 2 in
    let D = var 3 in
    let E = var 4 in
    let F = var 5 in
    let G = var 6 in
    let H = var 7 in
    let I = var 8 in
    solve (a ∷ b ∷ c ∷ d ∷ e ∷ f ∷ g ∷ h ∷ i ∷ []) (A ⊗ two E F H I ⊖ (B ⊗ two D F G I ⊖ (C ⊗ two D E G H ⊖ num (pos 0)))) (A ⊗ (E ⊗ I ⊖ F ⊗ H) ⊖ B ⊗ (D ⊗ I ⊖ F ⊗ G) ⊕ C ⊗ (D ⊗ H ⊖ E ⊗ G)) refl

-- the same by the entries of the last row: (ae − bd)i − (af − cd)h + (bf − ce)g
by_last_row : (a b c d e f g h i : ℤ) → determinant 3 ((a ∷ b ∷ c ∷ []) ∷ (d ∷ e ∷ f ∷ []) ∷ (g ∷ h ∷ i ∷ []) ∷ []) ≡ (a *ℤ e -ℤ b *ℤ d) *ℤ i -ℤ (a *ℤ f -ℤ c *ℤ d) *ℤ h +ℤ (b *ℤ f -ℤ c *ℤ e) *ℤ g
by_last_row a b c d e f g h i =
    let A = var 0 in
    let B = var 1 in
    let C = var 2 in
    let D = var 3 in
    let E = var 4 in
    let F = var 5 in
    let G = var 6 in
    let H = var 7 in
    let I = var 8 in
    determinant_of_three a b c d e f g h i ∙ solve (a ∷ b ∷ c ∷ d ∷ e ∷ f ∷ g ∷ h ∷ i ∷ []) (A ⊗ (E ⊗ I ⊖ F ⊗ H) ⊖ B ⊗ (D ⊗ I ⊖ F ⊗ G) ⊕ C ⊗ (D ⊗ H ⊖ E ⊗ G)) ((A ⊗ E ⊖ B ⊗ D) ⊗ I ⊖ (A ⊗ F ⊖ C ⊗ D) ⊗ H ⊕ (B ⊗ F ⊖ C ⊗ E) ⊗ G) refl

-- three rows, as the determinant goes through them
three : Expression → Expression → Expression → Expression → Expression → Expression → Expression → Expression → Expression → Expression
three a b c d e f g h i = a ⊗ two e f h i ⊖ (b ⊗ two d f g i ⊖ (c ⊗ two d e g h ⊖ num (pos 0)))

-- of four rows: the two upper ones by two columns, times the two lower ones by the other two
pub determinant_of_four : (a b c d e f g h i j k l m n o p : ℤ) → determinant 4 ((a ∷ b ∷ c ∷ d ∷ []) ∷ (e ∷ f ∷ g ∷ h ∷ []) ∷ (i ∷ j ∷ k ∷ l ∷ []) ∷ (m ∷ n ∷ o ∷ p ∷ []) ∷ []) ≡ (a *ℤ f -ℤ b *ℤ e) *ℤ (k *ℤ p -ℤ l *ℤ o) -ℤ (a *ℤ g -ℤ c *ℤ e) *ℤ (j *ℤ p -ℤ l *ℤ n) +ℤ (a *ℤ h -ℤ d *ℤ e) *ℤ (j *ℤ o -ℤ k *ℤ n) +ℤ (b *ℤ g -ℤ c *ℤ f) *ℤ (i *ℤ p -ℤ l *ℤ m) -ℤ (b *ℤ h -ℤ d *ℤ f) *ℤ (i *ℤ o -ℤ k *ℤ m) +ℤ (c *ℤ h -ℤ d *ℤ g) *ℤ (i *ℤ n -ℤ j *ℤ m)
unfolding determinant alternating without span two three
determinant_of_four a b c d e f g h i j k l m n o p =
    let A = var 0 in
    let B = var 1 in
    let C = var 2 in
    let D = var 3 in
    let E = var 4 in
    let F = var 5 in
    let G = var 6 in
    let H = var 7 in
    let I = var 8 in
    let J = var 9 in
    let K = var 10 in
    let L = var 11 in
    let M = var 12 in
    let N = var 13 in
    let O = var 14 in
    let P = var 15 in
    solve (a ∷ b ∷ c ∷ d ∷ e ∷ f ∷ g ∷ h ∷ i ∷ j ∷ k ∷ l ∷ m ∷ n ∷ o ∷ p ∷ []) (A ⊗ three F G H J K L N O P ⊖ (B ⊗ three E G H I K L M O P ⊖ (C ⊗ three E F H I J L M N P ⊖ (D ⊗ three E F G I J K M N O ⊖ num (pos 0))))) ((A ⊗ F ⊖ B ⊗ E) ⊗ (K ⊗ P ⊖ L ⊗ O) ⊖ (A ⊗ G ⊖ C ⊗ E) ⊗ (J ⊗ P ⊖ L ⊗ N) ⊕ (A ⊗ H ⊖ D ⊗ E) ⊗ (J ⊗ O ⊖ K ⊗ N) ⊕ (B ⊗ G ⊖ C ⊗ F) ⊗ (I ⊗ P ⊖ L ⊗ M) ⊖ (B ⊗ H ⊖ D ⊗ F) ⊗ (I ⊗ O ⊖ K ⊗ M) ⊕ (C ⊗ H ⊖ D ⊗ G) ⊗ (I ⊗ N ⊖ J ⊗ M)) (refl {a = true})

-- the trace of three rows: a + e + i
pub trace_of_three : (a b c d e f g h i : ℤ) → trace ((a ∷ b ∷ c ∷ []) ∷ (d ∷ e ∷ f ∷ []) ∷ (g ∷ h ∷ i ∷ []) ∷ []) ≡ a +ℤ (e +ℤ i)
unfolding trace
trace_of_three a b c d e f g h i = rw (+ℤ_idr i)

-- ---- the determinant sees the parts alone

-- the place in a row of place k without column j
skip : ℕ → ℕ → ℕ
skip zero k = suc k
skip (suc j) zero = zero
skip (suc j) (suc k) = suc (skip j k)

part_without : (j : ℕ) (x : List ℤ) (k : ℕ) → part (without j x) k ≡ part x (skip j k)
unfolding without skip
part_without zero x k = part_rest x k
part_without (suc j) [] zero = refl
part_without (suc j) [] (suc k) = refl
part_without (suc j) (a ∷ x) zero = refl
part_without (suc j) (a ∷ x) (suc k) = part_without j x k

row_without : (j : ℕ) (m : List (List ℤ)) (i k : ℕ) → part (get_or (map (without j) m) i []) k ≡ part (get_or m i []) (skip j k)
row_without j [] i k = refl
row_without j (row ∷ m) zero k = part_without j row k
row_without j (row ∷ m) (suc i) k = row_without j m i k

determinant_parts : (n : ℕ) (m l : List (List ℤ)) → length m ≡ length l → ((i k : ℕ) → part (get_or m i []) k ≡ part (get_or l i []) k) → determinant n m ≡ determinant n l
unfolding determinant
determinant_parts zero m l h same = refl
determinant_parts (suc n) [] [] h same = refl
determinant_parts (suc n) [] (y ∷ l) h same = absurd (omega arith)
determinant_parts (suc n) (x ∷ m) [] h same = absurd (omega arith)
determinant_parts (suc n) (x ∷ m) (y ∷ l) h same =
    ap alternating (span_ext _ _ 0 0 (suc n) (λ j below. rw zero-add (ap₂ (λ a b. a *ℤ b) (same 0 j) (determinant_parts n (map (without j) m) (map (without j) l) (rows j) (λ i k. row_without j m i k ∙ same (suc i) (skip j k) ∙ sym (row_without j l i k))))))
  where
    rows : (j : ℕ) → length (map (without j) m) ≡ length (map (without j) l)
    rows j = omega (arith, length-map m (without j), length-map l (without j))

-- ---- of the corner of four rows

-- the first n of two lists that agree there
take_same : {A : Type 0} (n : ℕ) (x y : List A) (d : A) → ((k : ℕ) → k < n → get_or x k d ≡ get_or y k d) → (k : ℕ) → get_or (take n x) k d ≡ get_or (take n y) k d
take_same n x y d same k =
    elim (dec_lt k n) [
      | yes l ↦ get_or-take n x k d l ∙ same k l ∙ sym (get_or-take n y k d l)
      | no l ↦ get_or-eq_default (take n x) d {n = k} (omega (arith, length-take n x)) ∙ sym (get_or-eq_default (take n y) d {n = k} (omega (arith, length-take n y)))
    ]

module _ (m : List (List ℤ)) (four : length m ≡ width) where
  abbrev row : ℕ → List ℤ
  row i = get_or m i []

  abbrev at : ℕ → ℕ → ℤ
  at i k = part (row i) k

  -- it may be taken of the rows padded
  by_entries : (n : ℕ) → n ≤ width → determinant n (corner n m) ≡ determinant n (corner n (padded_rows m))
  unfolding corner
  by_entries n fits =
      determinant_parts n (corner n m) (corner n (padded_rows m)) (omega (arith, rows m, rows (padded_rows m), length_padded_rows m)) same
    where
      rows : (l : List (List ℤ)) → length (corner n l) ≡ min n (length l)
      rows l = length-map (take n l) (take n) ∙ length-take n l

      behind : (l : List (List ℤ)) (i : ℕ) → n ≤ i → get_or (take n l) i [] ≡ []
      behind l i h = get_or-eq_default (take n l) [] {n = i} (omega (arith, length-take n l))

      sides : (i j : ℕ) → j < n → part (get_or (take n m) i []) j ≡ part (get_or (take n (padded_rows m)) i []) j
      sides i j b =
          elim (dec_lt i n) [
            | yes l ↦ ap (λ x. part x j) (get_or-take n m i [] l) ∙ sym (part_padded (row i) j (omega arith)) ∙ ap (λ x. part x j) (sym (get_or-take n (padded_rows m) i [] l ∙ row_padded m i (omega arith)))
            | no l ↦ ap (λ x. part x j) (behind m i (omega arith) ∙ sym (behind (padded_rows m) i (omega arith)))
          ]

      same : (i k : ℕ) → part (get_or (corner n m) i []) k ≡ part (get_or (corner n (padded_rows m)) i []) k
      same i k =
          ap (λ x. part x k) (row_corner n m i)
          ∙ take_same n (get_or (take n m) i []) (get_or (take n (padded_rows m)) i []) (pos 0) (sides i) k
          ∙ ap (λ x. part x k) (sym (row_corner n (padded_rows m) i))

  pub two_by_minors : determinant 2 (corner 2 m) ≡ minor (row 0) (row 1) 0 1
  unfolding corner padded_rows padded span
  two_by_minors = by_entries 2 (lit≤ tt) ∙ determinant_of_two (at 0 0) (at 0 1) (at 1 0) (at 1 1)

  pub three_by_minors : determinant 3 (corner 3 m) ≡ minor (row 0) (row 1) 0 1 *ℤ at 2 2 -ℤ minor (row 0) (row 1) 0 2 *ℤ at 2 1 +ℤ minor (row 0) (row 1) 1 2 *ℤ at 2 0
  unfolding corner padded_rows padded span
  three_by_minors =
      by_entries 3 (lit≤ tt) ∙ by_last_row (at 0 0) (at 0 1) (at 0 2) (at 1 0) (at 1 1) (at 1 2) (at 2 0) (at 2 1) (at 2 2)

  pub four_by_minors : determinant 4 (corner 4 m) ≡ minor (row 0) (row 1) 0 1 *ℤ minor (row 2) (row 3) 2 3 -ℤ minor (row 0) (row 1) 0 2 *ℤ minor (row 2) (row 3) 1 3 +ℤ minor (row 0) (row 1) 0 3 *ℤ minor (row 2) (row 3) 1 2 +ℤ minor (row 0) (row 1) 1 2 *ℤ minor (row 2) (row 3) 0 3 -ℤ minor (row 0) (row 1) 1 3 *ℤ minor (row 2) (row 3) 0 2 +ℤ minor (row 0) (row 1) 2 3 *ℤ minor (row 2) (row 3) 0 1
  unfolding corner padded_rows padded span
  four_by_minors =
      by_entries 4 (lit≤ tt) ∙ determinant_of_four (at 0 0) (at 0 1) (at 0 2) (at 0 3) (at 1 0) (at 1 1) (at 1 2) (at 1 3) (at 2 0) (at 2 1) (at 2 2) (at 2 3) (at 3 0) (at 3 1) (at 3 2) (at 3 3)
