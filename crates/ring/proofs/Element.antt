-- Laws of sum, difference and scaling, for every degree. A missing part is zero, so most need no word on the degree.
use mathlib.Core.Path.{◌≡◌, refl, sym, ap, ap₂, ◌∙◌}
use mathlib.Core.Bool.{true, ◌&&◌}
use mathlib.Core.List.{List, [], ◌∷◌}
use Prim.Native.Nat.{ℕ, zero, suc, ◌+◌, ◌*◌, ◌≤◌, max, ◌<◌, zero-le}
use native.Mathlib.Omega.{arith}
use native.Mathlib.Nat.{not-suc-le-zero, add-zero, add-suc, suc-add}
use lib.ListN.{length, set, take, length-map, get_or-map}
use lib.IntN.{ℤ, pos, nat_abs, neg_ℤ, ◌+ℤ◌, ◌-ℤ◌, ◌*ℤ◌, +ℤ_assoc, +ℤ_comm, +ℤ_idl, +ℤ_idr, +ℤ_invl, neg_ℤ-+ℤ, *ℤ_comm, *ℤ-zero, zero-*ℤ}
use Rattle.lists.specs.Span.{span}
use Rattle.lists.proofs.Cons.{cons≡}
use Rattle.lists.proofs.Test.{both, clash}
use Rattle.integers.proofs.Test.{eq_z_refl, eq_z→≡}
use Rattle.integers.proofs.Laws.{*-distrib, +-distrib, *-assoc, one-*}
use Rattle.integers.proofs.Size.{nat_abs-+, nat_abs_neg, nat_abs-*≤}
use Rattle.ring.specs.Element.{part, zeros, plus, negative, minus}
use Rattle.ring.specs.Product.{scale}
use Rattle.ring.specs.Tests.{Within, same}

pub plus_nil : (x : List ℤ) → plus x [] ≡ x
unfolding plus
plus_nil [] = refl
plus_nil (a ∷ x) = refl

pub plus_comm : (x y : List ℤ) → plus x y ≡ plus y x
unfolding plus
plus_comm [] y = sym (plus_nil y)
plus_comm (a ∷ x) [] = refl
plus_comm (a ∷ x) (b ∷ y) = cons≡ (+ℤ_comm a b) (plus_comm x y)

pub plus_assoc : (x y z : List ℤ) → plus (plus x y) z ≡ plus x (plus y z)
unfolding plus
plus_assoc [] y z = refl
plus_assoc (a ∷ x) [] z = refl
plus_assoc (a ∷ x) (b ∷ y) [] = refl
plus_assoc (a ∷ x) (b ∷ y) (c ∷ z) = cons≡ (+ℤ_assoc a b c) (plus_assoc x y z)

pub plus_left_comm : (x y z : List ℤ) → plus x (plus y z) ≡ plus y (plus x z)
plus_left_comm x y z = sym (plus_assoc x y z) ∙ ap (λ w. plus w z) (plus_comm x y) ∙ plus_assoc y x z

pub plus_cross : (x y z w : List ℤ) → plus (plus x y) (plus z w) ≡ plus (plus x z) (plus y w)
plus_cross x y z w = simp (plus_assoc, plus_left_comm)

pub length_plus : (x y : List ℤ) → length (plus x y) ≡ max (length x) (length y)
unfolding plus
length_plus [] y = omega arith
length_plus (a ∷ x) [] = omega arith
length_plus (a ∷ x) (b ∷ y) = omega (arith, length_plus x y)

-- the sum of two elements of d parts has d parts
pub plus_parts : (d : ℕ) (x y : List ℤ) → length x ≡ d → length y ≡ d → length (plus x y) ≡ d
plus_parts d x y h k = omega (arith, length_plus x y)

pub part_plus : (x y : List ℤ) (k : ℕ) → part (plus x y) k ≡ part x k +ℤ part y k
unfolding plus
part_plus [] y k = sym (+ℤ_idl (part y k))
part_plus (a ∷ x) [] k = sym (+ℤ_idr (part (a ∷ x) k))
part_plus (a ∷ x) (b ∷ y) zero = refl
part_plus (a ∷ x) (b ∷ y) (suc k) = part_plus x y k

pub take_plus : (n : ℕ) (x y : List ℤ) → take n (plus x y) ≡ plus (take n x) (take n y)
unfolding plus
take_plus zero x y = refl
take_plus (suc n) [] y = refl
take_plus (suc n) (a ∷ x) [] = refl
take_plus (suc n) (a ∷ x) (b ∷ y) = cons≡ refl (take_plus n x y)

pub zeros_plus : (x : List ℤ) (d : ℕ) → d ≤ length x → plus (zeros d) x ≡ x
unfolding plus
zeros_plus x zero h = refl
zeros_plus [] (suc d) h = absurd (not-suc-le-zero h)
zeros_plus (a ∷ x) (suc d) h = cons≡ (+ℤ_idl a) (zeros_plus x d (omega arith))

pub part_zeros : (d k : ℕ) → part (zeros d) k ≡ pos 0
part_zeros zero k = refl
part_zeros (suc d) zero = refl
part_zeros (suc d) (suc k) = part_zeros d k

pub length_scale : (k : ℤ) (x : List ℤ) → length (scale k x) ≡ length x
unfolding scale
length_scale k x = length-map x (λ a. k *ℤ a)

pub part_scale : (k : ℤ) (x : List ℤ) (i : ℕ) → part (scale k x) i ≡ k *ℤ part x i
unfolding scale
part_scale k [] i = sym (*ℤ-zero k)
part_scale k (a ∷ x) zero = refl
part_scale k (a ∷ x) (suc i) = part_scale k x i

pub take_scale : (n : ℕ) (k : ℤ) (x : List ℤ) → take n (scale k x) ≡ scale k (take n x)
unfolding scale
take_scale zero k x = refl
take_scale (suc n) k [] = refl
take_scale (suc n) k (a ∷ x) = cons≡ refl (take_scale n k x)

pub scale_plus : (k : ℤ) (x y : List ℤ) → scale k (plus x y) ≡ plus (scale k x) (scale k y)
unfolding scale plus
scale_plus k [] y = refl
scale_plus k (a ∷ x) [] = refl
scale_plus k (a ∷ x) (b ∷ y) = cons≡ (*-distrib k a b) (scale_plus k x y)

pub scale_sum : (k l : ℤ) (x : List ℤ) → scale (k +ℤ l) x ≡ plus (scale k x) (scale l x)
unfolding scale plus
scale_sum k l [] = refl
scale_sum k l (a ∷ x) = cons≡ (+-distrib k l a) (scale_sum k l x)

pub scale_scale : (k l : ℤ) (x : List ℤ) → scale k (scale l x) ≡ scale (k *ℤ l) x
unfolding scale
scale_scale k l [] = refl
scale_scale k l (a ∷ x) = cons≡ (sym (*-assoc k l a)) (scale_scale k l x)

pub scale_comm : (k l : ℤ) (x : List ℤ) → scale k (scale l x) ≡ scale l (scale k x)
scale_comm k l x = scale_scale k l x ∙ ap (λ c. scale c x) (*ℤ_comm k l) ∙ sym (scale_scale l k x)

pub scale_one : (x : List ℤ) → scale (pos 1) x ≡ x
unfolding scale
scale_one [] = refl
scale_one (a ∷ x) = cons≡ (one-* a) (scale_one x)

pub scale_none : (x : List ℤ) → scale (pos 0) x ≡ zeros (length x)
unfolding scale
scale_none [] = refl
scale_none (a ∷ x) = cons≡ (zero-*ℤ a) (scale_none x)

pub scale_zeros : (k : ℤ) (d : ℕ) → scale k (zeros d) ≡ zeros d
unfolding scale
scale_zeros k zero = refl
scale_zeros k (suc d) = cons≡ (*ℤ-zero k) (scale_zeros k d)

pub length_negative : (x : List ℤ) → length (negative x) ≡ length x
unfolding negative
length_negative x = length-map x neg_ℤ

pub minus_parts : (d : ℕ) (x y : List ℤ) → length x ≡ d → length y ≡ d → length (minus x y) ≡ d
unfolding minus
minus_parts d x y h k = plus_parts d x (negative y) h (length_negative y ∙ k)

pub negative_sum : (x y : List ℤ) → plus (negative x) (negative y) ≡ negative (plus x y)
unfolding negative plus
negative_sum [] y = refl
negative_sum (a ∷ x) [] = refl
negative_sum (a ∷ x) (b ∷ y) = cons≡ (sym (neg_ℤ-+ℤ a b)) (negative_sum x y)

pub negative_difference : (x y : List ℤ) → minus (negative x) (negative y) ≡ negative (minus x y)
unfolding minus
negative_difference x y = negative_sum x (negative y)

pub negative_zeros : (d : ℕ) → negative (zeros d) ≡ zeros d
unfolding negative
negative_zeros zero = refl
negative_zeros (suc d) = cons≡ refl (negative_zeros d)

negative_plus : (x : List ℤ) → plus (negative x) x ≡ zeros (length x)
unfolding negative plus
negative_plus [] = refl
negative_plus (a ∷ x) = cons≡ (+ℤ_invl a) (negative_plus x)

-- a difference with its second element added back
pub minus_plus : (x y : List ℤ) → length x ≡ length y → plus (minus x y) y ≡ x
unfolding minus
minus_plus x y h =
    plus_assoc x (negative y) y ∙ ap (plus x) (negative_plus y) ∙ plus_comm x (zeros (length y)) ∙ zeros_plus x (length y) (omega arith)

pub part_negative : (x : List ℤ) (k : ℕ) → part (negative x) k ≡ neg_ℤ (part x k)
unfolding negative
part_negative x k = get_or-map neg_ℤ x k (pos 0)

pub part_minus : (x y : List ℤ) (k : ℕ) → part (minus x y) k ≡ part x k -ℤ part y k
unfolding minus
part_minus x y k = part_plus x (negative y) k ∙ ap (λ z. part x k +ℤ z) (part_negative y k)

-- ---- sizes

pub within_plus : (m n : ℕ) (x y : List ℤ) → Within m x → Within n y → Within (m + n) (plus x y)
unfolding Within
within_plus m n x y h l k = rw (part_plus x y k) (omega (arith, nat_abs-+ (part x k) (part y k), h k, l k))

pub within_minus : (m n : ℕ) (x y : List ℤ) → Within m x → Within n y → Within (m + n) (minus x y)
unfolding Within
within_minus m n x y h l k =
    rw (part_minus x y k) (omega (arith, nat_abs-+ (part x k) (neg_ℤ (part y k)), nat_abs_neg (part y k), h k, l k))

pub within_scale : (m n : ℕ) (k : ℤ) (x : List ℤ) → nat_abs k ≤ m → Within n x → Within (m * n) (scale k x)
unfolding Within
within_scale m n k x h w i = rw (part_scale k x i) (nat_abs-*≤ k (part x i) m n h (w i))

pub within_le : (m n : ℕ) (x : List ℤ) → m ≤ n → Within m x → Within n x
unfolding Within
within_le m n x h w k = omega (arith, w k)

-- one entry written
pub within_set : (n : ℕ) (x : List ℤ) (i : ℕ) (z : ℤ) → Within n x → nat_abs z ≤ n → Within n (set x i z)
unfolding Within
within_set n [] i z w h k = w k
within_set n (a ∷ x) zero z w h zero = h
within_set n (a ∷ x) zero z w h (suc k) = w (suc k)
within_set n (a ∷ x) (suc i) z w h zero = w zero
within_set n (a ∷ x) (suc i) z w h (suc k) = within_set n x i z (λ j. w (suc j)) h k

-- a list by a function of the place
pub within_span : (n : ℕ) (f : ℕ → ℤ) (i c : ℕ) → ((k : ℕ) → k < c → nat_abs (f (i + k)) ≤ n) → Within n (span f i c)
unfolding Within span
within_span n f i zero h k = zero-le
within_span n f i (suc c) h zero = rw add-zero at (h 0 (omega arith))
within_span n f i (suc c) h (suc k) = within_span n f (suc i) c (λ j l. rw (add-suc i j, ← suc-add i j) at (h (suc j) (omega arith))) k

-- ---- a zero put below

pub raise_plus : (x y : List ℤ) → pos 0 ∷ plus x y ≡ plus (pos 0 ∷ x) (pos 0 ∷ y)
unfolding plus
raise_plus x y = refl

pub raise_scale : (k : ℤ) (x : List ℤ) → pos 0 ∷ scale k x ≡ scale k (pos 0 ∷ x)
unfolding scale
raise_scale k x = cons≡ (sym (*ℤ-zero k)) refl

pub take_zeros : (n : ℕ) → take n (zeros (suc n)) ≡ zeros n
take_zeros zero = refl
take_zeros (suc n) = cons≡ refl (take_zeros n)

-- ---- an element taken from a sum, and the test of equality

pub plus_minus : (x y : List ℤ) → length x ≤ length y → minus (plus x y) x ≡ y
unfolding minus
plus_minus x y h =
    plus_comm (plus x y) (negative x) ∙ sym (plus_assoc (negative x) x y) ∙ ap (λ z. plus z y) (negative_plus x) ∙ zeros_plus y (length x) h

pub same_refl : (x : List ℤ) → same x x ≡ true
unfolding same
same_refl [] = refl
same_refl (a ∷ x) = ap₂ (λ b c. b && c) (eq_z_refl a) (same_refl x)

pub same→≡ : (x y : List ℤ) → same x y ≡ true → x ≡ y
unfolding same
same→≡ [] [] h = refl
same→≡ [] (b ∷ y) h = clash h refl
same→≡ (a ∷ x) [] h = clash h refl
same→≡ (a ∷ x) (b ∷ y) h = let c = both _ _ h in cons≡ (eq_z→≡ a b c.0) (same→≡ x y c.1)
