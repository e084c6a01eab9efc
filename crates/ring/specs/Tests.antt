-- Pinned by laws of proofs/ (tests that compute, and limits for helpers' contracts): a reader may skip this file.
use Rattle.std.specs.Prelude.{Bool, false, ◌&&◌, ◌||◌, true, ℕ, zero, suc, ◌*◌, ◌≤◌, leb, ltb, eqb, ℤ, pos, negsuc, nat_abs, ◌+ℤ◌, List, [], ◌∷◌, get_or}
use Rattle.ring.specs.declared.Degree.{Degree}
use Rattle.ring.specs.Degree.{base_limit}
use Rattle.ring.specs.declared.Degree.TheVariants.{Two, Three, Four}
use Rattle.ring.specs.Base.{base_trace, base_norm}
use Rattle.integers.specs.Test.{eq_z}
use Rattle.ring.specs.Element.{part}

-- every part is at most n in size
unfoldable pub Within : ℕ → List ℤ → Type 0
Within n x = (k : ℕ) → nat_abs (part x k) ≤ n

-- every entry of every row is at most n in size
unfoldable pub RowsWithin : ℕ → List (List ℤ) → Type 0
RowsWithin n m = (i : ℕ) → Within n (get_or m i [])

-- two elements have the same parts
unfoldable pub same : List ℤ → List ℤ → Bool
same [] [] = true
same [] (b ∷ y) = false
same (a ∷ x) [] = false
same (a ∷ x) (b ∷ y) = eq_z a b && same x y

-- the parts of ω to the power of the degree and of β are within their size limit
pub record BaseSizes (degree : Degree) (omega beta : List ℤ) : Type 0 where
  pub of_omega : Within (base_limit degree) omega
  pub of_beta : Within (base_limit degree) beta

-- part k is at most limit k in size
unfoldable pub LimitedBy : List ℕ → List ℤ → Type 0
LimitedBy limits x = (k : ℕ) → nat_abs (part x k) ≤ get_or limits k 0

-- what the entries of each column of the matrix of multiplication by β then keep to: each column is at most one more than the size
-- limit times the one before it
abbrev pub column_limits : Degree → List ℕ
column_limits Two = 64 ∷ 4160 ∷ []
column_limits Three = 64 ∷ 4160 ∷ 270400 ∷ []
column_limits Four = 32 ∷ 1056 ∷ 34848 ∷ 1149984 ∷ []

unfoldable pub ColumnsWithin : Degree → List (List ℤ) → Type 0
ColumnsWithin degree m = (i : ℕ) → LimitedBy (column_limits degree) (get_or m i [])

-- the limits of a row's entries at every degree
abbrev pub row_limits : List ℕ
row_limits = 64 ∷ 4160 ∷ 270400 ∷ 1149984 ∷ []

unfoldable pub RowsLimited : List (List ℤ) → Type 0
RowsLimited m = (i : ℕ) → LimitedBy row_limits (get_or m i [])

-- the size limits of s, t, u and v
pub record BaseLimits (s t u v : ℤ) : Type 0 where
  pub of_s : nat_abs s ≤ 64
  pub of_t : nat_abs t ≤ 64
  pub of_u : nat_abs u ≤ 64
  pub of_v : nat_abs v ≤ 64

-- the base is expanding
unfoldable pub expanding : ℤ → ℤ → ℤ → ℤ → Bool
expanding s t u v =
    leb 2 (nat_abs (base_norm s t u v)) && ltb (nat_abs (base_trace s u v)) (nat_abs (base_norm s t u v +ℤ pos 1))

-- a number is a square: no root is above its square
unfoldable pub square_below : ℕ → ℕ → Bool
square_below zero n = false
square_below (suc k) n = eqb (k * k) n || square_below k n

unfoldable pub perfect_square : ℤ → Bool
perfect_square (pos n) = square_below (suc n) n
perfect_square (negsuc n) = false
