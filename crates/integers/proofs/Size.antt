-- Sizes: the absolute value of a sum, a product and a negative, and from a bound on it to a signed width's range.
-- `omega` reads no integer, so an overflow is shown from bounds on absolute values.
use mathlib.Core.Path.{◌≡◌, refl, ap}
use Prim.Native.Nat.{ℕ, zero, suc, ◌+◌, ◌-◌, ◌*◌, ◌^◌, ◌<◌, ◌≤◌}
use native.Mathlib.Omega.{arith}
use native.Mathlib.Nat.{mul-le-mul}
use lib.Dec.{T, ltb, ltb→lt}
use lib.Signed.{mag}
use mathlib.Core.Bool.{Bool, true, false, not, cond}
use lib.IntN.{ℤ, pos, negsuc, neg_ℤ, nat_abs, sub_ℕ, ◌+ℤ◌, ◌-ℤ◌, ◌*ℤ◌}
use mir.Syntax.{Width}
use mir.Val.{SFits, hbits}

pub nat_abs_neg : (a : ℤ) → nat_abs (neg_ℤ a) ≡ nat_abs a
nat_abs_neg (pos zero) = refl
nat_abs_neg (pos (suc n)) = refl
nat_abs_neg (negsuc n) = refl

pub no_size : (z : ℤ) → nat_abs z ≡ 0 → z ≡ pos 0
no_size (pos n) h = ap pos h
no_size (negsuc n) h = absurd (omega arith)

nat_abs_cond : (b : Bool) (x y : ℤ) (n : ℕ) → (T b → nat_abs x ≤ n) → (T (not b) → nat_abs y ≤ n) → nat_abs (cond b x y) ≤ n
nat_abs_cond true x y n f g = f tt
nat_abs_cond false x y n f g = g tt

-- two numbers of which neither passes the other by more than n
pub nat_abs_sub : (a b n : ℕ) → a ≤ b + n → b ≤ a + n → nat_abs (sub_ℕ a b) ≤ n
nat_abs_sub a b n h k =
    nat_abs_cond (ltb a b) (negsuc (b - suc a)) (pos (a - b)) n (λ t. below (ltb→lt a b t)) (λ t. omega arith)
  where
    below : a < b → suc (b - suc a) ≤ n
    below l = omega arith

pub nat_abs-+ : (a b : ℤ) → nat_abs (a +ℤ b) ≤ nat_abs a + nat_abs b
nat_abs-+ (pos a) (pos b) = omega arith
nat_abs-+ (pos a) (negsuc b) = nat_abs_sub a (suc b) (a + suc b) (omega arith) (omega arith)
nat_abs-+ (negsuc a) (pos b) = nat_abs_sub b (suc a) (suc a + b) (omega arith) (omega arith)
nat_abs-+ (negsuc a) (negsuc b) = omega arith

pub nat_abs_minus : (a b : ℤ) → nat_abs (a -ℤ b) ≤ nat_abs a + nat_abs b
nat_abs_minus a b = omega (arith, nat_abs-+ a (neg_ℤ b), nat_abs_neg b)

pub nat_abs-* : (a b : ℤ) → nat_abs (a *ℤ b) ≡ nat_abs a * nat_abs b
nat_abs-* (pos a) (pos b) = refl
nat_abs-* (pos a) (negsuc b) = nat_abs_neg (pos (a * suc b))
nat_abs-* (negsuc a) (pos b) = nat_abs_neg (pos (suc a * b))
nat_abs-* (negsuc a) (negsuc b) = refl

-- a square, from the size
pub square_size : (a : ℤ) → pos (nat_abs a * nat_abs a) ≡ a *ℤ a
square_size (pos n) = refl
square_size (negsuc n) = refl

-- a product of two bounded factors
pub nat_abs-*≤ : (a b : ℤ) (m n : ℕ) → nat_abs a ≤ m → nat_abs b ≤ n → nat_abs (a *ℤ b) ≤ m * n
nat_abs-*≤ a b m n h k = rw (nat_abs-* a b) (mul-le-mul h k)

pub mag≤nat_abs : (z : ℤ) → mag z ≤ nat_abs z
mag≤nat_abs (pos n) = omega arith
mag≤nat_abs (negsuc n) = omega arith

pub small_fits : (w : Width) (z : ℤ) → nat_abs z < 2 ^ hbits w → SFits w z
small_fits w z h = record { sfits = omega (arith, mag≤nat_abs z) }

-- ---- the range of a signed width, −n to n − 1, whose bound absolute values lose by one

mag_cond : (b : Bool) (x y : ℤ) (n : ℕ) → mag x < n → mag y < n → mag (cond b x y) < n
mag_cond true x y n h k = h
mag_cond false x y n h k = k

-- the difference of two numbers in such a range
pub mag_sub : (a b n : ℕ) → a < n → b ≤ n → mag (sub_ℕ a b) < n
mag_sub a b n h k = mag_cond (ltb a b) (negsuc (b - suc a)) (pos (a - b)) n (omega arith) (omega arith)
