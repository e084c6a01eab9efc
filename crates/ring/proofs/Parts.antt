-- Elements of four parts and the base, as the code takes them apart: numbers with their bounds, and each operation part by part.
use mathlib.Core.Path.{◌≡◌, ap, ap₂}
use mathlib.Core.Bool.{Bool, true, ◌&&◌, and-true, and_assoc}
use mathlib.Core.List.{List, [], ◌∷◌}
use Prim.Native.Nat.{ℕ, zero, suc, ◌≤◌, zero-le}
use native.Mathlib.Nat.{le_refl}
use lib.ListN.{length, get_or}
use lib.IntN.{ℤ, pos, nat_abs, ◌+ℤ◌, ◌-ℤ◌, ◌*ℤ◌}
use Rattle.lists.specs.Span.{span}
use Rattle.lists.proofs.Span.{listed}
use Rattle.integers.proofs.Machine.{Term, leaf, ◌⊕◌, ◌⊖◌, ◌⊗◌, plain_bound}
use Rattle.ring.specs.Element.{part, plus, negative, minus}
use Rattle.ring.specs.Tests.{Within, BaseLimits, RowsWithin, LimitedBy, row_limits, RowsLimited}
use Rattle.ring.specs.Base.{base_trace, base_norm}
use Rattle.ring.specs.Padded.{width}
use Rattle.ring.specs.Product.{scale}

pub within_part : (n : ℕ) (x : List ℤ) → Within n x → (k : ℕ) → nat_abs (part x k) ≤ n
unfolding Within
within_part n x h k = h k

pub within_row : (n : ℕ) (m : List (List ℤ)) → RowsWithin n m → (i : ℕ) → Within n (get_or m i [])
unfolding RowsWithin
within_row n m h i = h i

pub within_four : (n : ℕ) (a b c d : ℤ) → nat_abs a ≤ n → nat_abs b ≤ n → nat_abs c ≤ n → nat_abs d ≤ n → Within n (a ∷ b ∷ c ∷ d ∷ [])
unfolding Within
within_four n a b c d h i j k zero = h
within_four n a b c d h i j k (suc zero) = i
within_four n a b c d h i j k (suc (suc zero)) = j
within_four n a b c d h i j k (suc (suc (suc zero))) = k
within_four n a b c d h i j k (suc (suc (suc (suc l)))) = zero-le

pub limited_part : (limits : List ℕ) (x : List ℤ) → LimitedBy limits x → (k : ℕ) → nat_abs (part x k) ≤ get_or limits k 0
unfolding LimitedBy
limited_part limits x h k = h k

pub limited_row : (m : List (List ℤ)) → RowsLimited m → (i : ℕ) → LimitedBy row_limits (get_or m i [])
unfolding RowsLimited
limited_row m h i = h i

-- a part as the machine computes with it
abbrev pub entry : (n : ℕ) (x : List ℤ) → Within n x → ℕ → Term
entry n x h k = leaf (part x k) n (within_part n x h k)

abbrev pub limited_entry : (limits : List ℕ) (x : List ℤ) → LimitedBy limits x → ℕ → Term
limited_entry limits x h k = leaf (part x k) (get_or limits k 0) (limited_part limits x h k)

pub four_parts : (x : List ℤ) → length x ≡ width → x ≡ part x 0 ∷ part x 1 ∷ part x 2 ∷ part x 3 ∷ []
unfolding span
four_parts x h = listed (pos 0) width x h

pub four_rows : (m : List (List ℤ)) → length m ≡ width → m ≡ get_or m 0 [] ∷ get_or m 1 [] ∷ get_or m 2 [] ∷ get_or m 3 [] ∷ []
unfolding span
four_rows m h = listed [] width m h

-- four tests as a list gives them, and as the code does
pub grouped : (a b c d : Bool) → (a && (b && (c && (d && true)))) ≡ (a && b && c && d)
grouped a b c d = simp (and-true, and_assoc)

module _ (x y : List ℤ) (h : length x ≡ width) (k : length y ≡ width) where
  pub plus_four : plus x y ≡ (part x 0 +ℤ part y 0) ∷ (part x 1 +ℤ part y 1) ∷ (part x 2 +ℤ part y 2) ∷ (part x 3 +ℤ part y 3) ∷ []
  unfolding plus
  plus_four = ap₂ plus (four_parts x h) (four_parts y k)

  pub minus_four : minus x y ≡ (part x 0 -ℤ part y 0) ∷ (part x 1 -ℤ part y 1) ∷ (part x 2 -ℤ part y 2) ∷ (part x 3 -ℤ part y 3) ∷ []
  unfolding minus negative plus
  minus_four = ap₂ minus (four_parts x h) (four_parts y k)

pub scale_four : (k : ℤ) (x : List ℤ) → length x ≡ width → scale k x ≡ (k *ℤ part x 0) ∷ (k *ℤ part x 1) ∷ (k *ℤ part x 2) ∷ (k *ℤ part x 3) ∷ []
unfolding scale
scale_four k x h = ap (scale k) (four_parts x h)

-- ---- the base

-- a literal
abbrev pub constant : ℕ → Term
constant n = leaf (pos n) n (le_refl n)

-- a number of the base section
abbrev pub number : (z : ℤ) → nat_abs z ≤ 64 → Term
number z h = leaf z 64 h

module _ (s u v : ℤ) (hs : nat_abs s ≤ 64) (hu : nat_abs u ≤ 64) (hv : nat_abs v ≤ 64) where
  abbrev pub trace_term : Term
  trace_term = constant 2 ⊗ number u hu ⊕ number s hs ⊗ number v hv

  pub trace_size : nat_abs (base_trace s u v) ≤ 4224
  unfolding base_trace
  trace_size = plain_bound trace_term

module _ {s t u v : ℤ} (limits : BaseLimits s t u v) where
  abbrev pub s_term : Term
  s_term = number s limits.of_s

  abbrev pub t_term : Term
  t_term = number t limits.of_t

  abbrev pub u_term : Term
  u_term = number u limits.of_u

  abbrev pub v_term : Term
  v_term = number v limits.of_v

  abbrev pub norm_term : Term
  norm_term = u_term ⊗ u_term ⊕ s_term ⊗ u_term ⊗ v_term ⊖ t_term ⊗ v_term ⊗ v_term

  pub norm_size : nat_abs (base_norm s t u v) ≤ 528384
  unfolding base_norm
  norm_size = plain_bound norm_term
