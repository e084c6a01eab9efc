-- The half to the even neighbour: what the formula is in plain words, that these name one number only, signs, and the range.
use mathlib.Core.Path.{◌≡◌, refl, sym, ap, ap₂, subst, ◌∙◌}
use mathlib.Core.List.{[], ◌∷◌, map}
use Prim.Native.Nat.{ℕ, zero, suc, ◌+◌, ◌/◌, ◌<◌, ◌≤◌, zero-le}
use native.Mathlib.Omega.{arith}
use lib.IntN.{ℤ, pos, negsuc, suc_ℤ, neg_ℤ, nat_abs, ◌+ℤ◌, ◌-ℤ◌, ◌*ℤ◌, neg_ℤ-neg_ℤ, neg_ℤ-+ℤ, +ℤ_one, +ℤ-suc_ℤ, +ℤ_invr, ℤ_discrete}
use lib.Signed.{mag}
use Rattle.integers.proofs.Laws.{ -zero→≡}
use Rattle.integers.proofs.Size.{nat_abs_neg, nat_abs_sub, nat_abs_minus, nat_abs-*, no_size, mag_sub}
use Rattle.integers.proofs.Solver.{var, num, ◌⊕◌, ◌⊖◌, ◌⊗◌, solve}
use Rattle.midpoint.specs.Half.{Even, HalfToEven}
use Rattle.midpoint.specs.Halved.{halved}

-- 3/2 becomes 2, 1/2 becomes 0, −1/2 becomes 0, −3/2 becomes −2
pub four_halves : map halved (pos 3 ∷ pos 1 ∷ negsuc 0 ∷ negsuc 2 ∷ []) ≡ pos 2 ∷ pos 0 ∷ pos 0 ∷ negsuc 1 ∷ []
unfolding halved
four_halves = refl

-- ---- signs

two_more : (n : ℕ) → negsuc (suc (suc n)) +ℤ pos 2 ≡ negsuc n
two_more n = +ℤ-suc_ℤ (negsuc (suc (suc n))) (pos 1) ∙ ap suc_ℤ (+ℤ_one (negsuc (suc (suc n))))

below_zero : (n : ℕ) → halved (negsuc n) ≡ neg_ℤ (halved (pos (suc n)))
unfolding halved
below_zero zero = refl
below_zero (suc zero) = refl
below_zero (suc (suc n)) = rw (+ℤ_one (negsuc (suc (suc n))), two_more n) (ap (λ k. neg_ℤ (pos k)) sizes)
  where
    sizes : suc (suc (suc n / 4 + n / 4)) ≡ (suc (suc (suc n)) + 1) / 4 + (suc (suc (suc n)) + 2) / 4
    sizes = omega arith

pub halved_neg : (z : ℤ) → halved (neg_ℤ z) ≡ neg_ℤ (halved z)
unfolding halved
halved_neg (pos zero) = refl
halved_neg (pos (suc n)) = below_zero n
halved_neg (negsuc n) = sym (neg_ℤ-neg_ℤ (halved (pos (suc n)))) ∙ ap neg_ℤ (sym (below_zero n))

-- ---- in plain words

opposite : (z r : ℤ) → HalfToEven z r → HalfToEven (neg_ℤ z) (neg_ℤ r)
opposite z r h = record { near = rw (turned, nat_abs_neg (r +ℤ r -ℤ z)) h.near; even = even }
  where
    turned : neg_ℤ r +ℤ neg_ℤ r -ℤ neg_ℤ z ≡ neg_ℤ (r +ℤ r -ℤ z)
    turned = ap (λ w. w -ℤ neg_ℤ z) (sym (neg_ℤ-+ℤ r r)) ∙ sym (neg_ℤ-+ℤ (r +ℤ r) (neg_ℤ z))

    even : ¬ (neg_ℤ r +ℤ neg_ℤ r ≡ neg_ℤ z) → Even (neg_ℤ r)
    even differs =
        let half = h.even (λ e. differs (sym (neg_ℤ-+ℤ r r) ∙ ap neg_ℤ e)) in
        (neg_ℤ half.0, ap neg_ℤ half.1 ∙ neg_ℤ-+ℤ half.0 half.0)

from_zero : (n : ℕ) → HalfToEven (pos n) (halved (pos n))
unfolding halved
from_zero n = record { near = near n; even = λ differs. (pos ((n + 1) / 4), ap pos (equal (λ e. differs (ap pos e)))) }
  where
    near : (n : ℕ) → nat_abs (halved (pos n) +ℤ halved (pos n) -ℤ pos n) ≤ 1
    near zero = zero-le
    near (suc n) = nat_abs_sub _ (suc n) 1 (omega arith) (omega arith)

    equal : ¬ ((n + 1) / 4 + (n + 2) / 4 + ((n + 1) / 4 + (n + 2) / 4) ≡ n) → (n + 1) / 4 + (n + 2) / 4 ≡ (n + 1) / 4 + (n + 1) / 4
    equal differs = omega arith

-- twice the half differs from the number by at most 1, and where it differs the half is even
pub to_even : (z : ℤ) → HalfToEven z (halved z)
to_even (pos n) = from_zero n
to_even (negsuc n) = subst (HalfToEven (negsuc n)) (sym (below_zero n)) (opposite (pos (suc n)) (halved (pos (suc n))) (from_zero (suc n)))

-- ---- one number only

exact : (z r : ℤ) → r +ℤ r ≡ z → nat_abs (r +ℤ r -ℤ z) ≡ 0
exact z r e = ap (λ w. nat_abs (w -ℤ z)) e ∙ ap nat_abs (+ℤ_invr z)

module _ (z r s : ℤ) where
  distance : nat_abs (r -ℤ s) + nat_abs (r -ℤ s) ≤ nat_abs (r +ℤ r -ℤ z) + nat_abs (s +ℤ s -ℤ z)
  distance = omega (arith, nat_abs-* (pos 2) (r -ℤ s), ap nat_abs twice, nat_abs_minus (r +ℤ r -ℤ z) (s +ℤ s -ℤ z))
    where
      twice : pos 2 *ℤ (r -ℤ s) ≡ r +ℤ r -ℤ z -ℤ (s +ℤ s -ℤ z)
      twice =
          solve (r ∷ s ∷ z ∷ []) (num (pos 2) ⊗ (var 0 ⊖ var 1)) (var 0 ⊕ var 0 ⊖ var 2 ⊖ (var 1 ⊕ var 1 ⊖ var 2)) refl

  even_apart : Even r → Even s → nat_abs (r -ℤ s) ≤ 1 → nat_abs (r -ℤ s) ≡ 0
  even_apart (a, e) (b, f) h = omega (arith, nat_abs-* (pos 2) (a -ℤ b), ap nat_abs twice)
    where
      twice : r -ℤ s ≡ pos 2 *ℤ (a -ℤ b)
      twice =
          ap₂ (λ x y. x -ℤ y) e f ∙ solve (a ∷ b ∷ []) (var 0 ⊕ var 0 ⊖ (var 1 ⊕ var 1)) (num (pos 2) ⊗ (var 0 ⊖ var 1)) refl

  -- the plain words name one number only
  pub one_half : HalfToEven z r → HalfToEven z s → r ≡ s
  one_half h k = -zero→≡ r s (no_size (r -ℤ s) none)
    where
      none : nat_abs (r -ℤ s) ≡ 0
      none =
          elim (ℤ_discrete (r +ℤ r) z) [
            | yes e ↦ omega (arith, distance, exact z r e, k.near)
            | no m ↦ elim (ℤ_discrete (s +ℤ s) z) [
              | yes e ↦ omega (arith, distance, exact z s e, h.near)
              | no l ↦ even_apart (h.even m) (k.even l) (omega (arith, distance, h.near, k.near))
            ]
          ]

pub halved_twice : (z : ℤ) → halved (z +ℤ z) ≡ z
halved_twice z = one_half (z +ℤ z) (halved (z +ℤ z)) z (to_even (z +ℤ z)) whole
  where
    whole : HalfToEven (z +ℤ z) z
    whole = record { near = omega (arith, exact (z +ℤ z) z refl); even = λ differs. absurd (differs refl) }

-- ---- the range

mag_neg : (k n : ℕ) → k ≤ n → 0 < n → mag (neg_ℤ (pos k)) < n
mag_neg zero n h l = l
mag_neg (suc k) n h l = h

mag_below : (a n : ℕ) → a < n + n → mag (halved (negsuc a)) < n
unfolding halved
mag_below a n h = rw (below_zero a) (mag_neg ((suc a + 1) / 4 + (suc a + 2) / 4) n (omega arith) (omega arith))

mag_halved : (z : ℤ) (n : ℕ) → mag z < n → mag (halved z) < n
unfolding halved
mag_halved (pos a) n h = omega arith
mag_halved (negsuc a) n h = mag_below a n (omega arith)

-- half the sum of two numbers is in their range: the greatest sum is even
pub half_range : (x y : ℤ) (n : ℕ) → mag x < n → mag y < n → mag (halved (x +ℤ y)) < n
unfolding halved
half_range (pos a) (pos b) n h k = omega arith
half_range (pos a) (negsuc b) n h k = mag_halved (pos a +ℤ negsuc b) n (mag_sub a (suc b) n h k)
half_range (negsuc a) (pos b) n h k = mag_halved (negsuc a +ℤ pos b) n (mag_sub b (suc a) n k h)
half_range (negsuc a) (negsuc b) n h k = mag_below (suc (a + b)) n (omega arith)
