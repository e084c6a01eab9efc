-- Windows of a row: each digit is one of the row's or a zero; which places a window and a converted digit read.
use mathlib.Core.Path.{◌≡◌, refl, ap}
use mathlib.Core.List.{List}
use Prim.Native.Nat.{ℕ, zero, suc, ◌+◌, ◌<◌, ◌≤◌}
use native.Mathlib.Omega.{arith}
use lib.ListN.{get_or, set}
use lib.Seq.{get_or-set_other}
use Rattle.numeration.specs.Group.{Operations}
use Rattle.numeration.specs.Code.{Code, Inputs, Begins}
use Rattle.numeration.specs.LeafOf.{depth}
use Rattle.numeration.specs.Prefix.{Below, Separate}
use Rattle.numeration.specs.Conversion.{window, leaf_into, weight_into, weight_at, convert}
use Rattle.numeration.proofs.Leaves.{leaf_of_ext, leaf_of_unique, get_d_inputs}

-- what holds of zeros, and of the digits at the place that digit k of the window below place j stands for, holds of that digit
pub window_by_place : (R : ℕ → ℕ → Type 0) (r s : List ℕ) (j k : ℕ) → (j ≤ k → R 0 0) → ((i : ℕ) → i + suc k ≡ j → R (get_or r i 0) (get_or s i 0)) → R (window r j k) (window s j k)
unfolding window
window_by_place R r s zero k low at = low (omega arith)
window_by_place R r s (suc j) zero low at = at j (omega arith)
window_by_place R r s (suc j) (suc k) low at = window_by_place R r s j k (λ h. low (omega arith)) (λ i e. at i (omega arith))

pub window_below : (m : ℕ) (row : List ℕ) → 0 < m → Inputs m row → (j : ℕ) → Below m (window row j)
window_below m row some all j k = window_by_place (λ d e. d < m) row row j k (λ h. some) (λ i e. get_d_inputs m row some all i)

module _ {A : Type 0} (c : Code A) where
  -- the leaf below place j, and with it the weight into the place, reads the h places below it
  module _ (r s : List ℕ) (j : ℕ) (same : (i : ℕ) → i < j → j ≤ i + depth c → get_or r i 0 ≡ get_or s i 0) where
    pub leaf_into_ext : leaf_into c r j ≡ leaf_into c s j
    leaf_into_ext = leaf_of_ext c _ _ (λ k h. window_by_place (λ d e. d ≡ e) r s j k (λ low. refl) (λ i e. same i (omega arith) (omega arith)))

    pub weight_into_ext : weight_into c r j ≡ weight_into c s j
    unfolding weight_into
    weight_into_ext = ap c.weight leaf_into_ext

  -- it is the weight of any leaf that begins the window
  pub weight_into_leaf : Separate c → (row : List ℕ) (j k : ℕ) → k < c.leaves → Begins c k (window row j) → weight_into c row j ≡ c.weight k
  unfolding weight_into
  weight_into_leaf apart row j k h b = ap c.weight (leaf_of_unique c apart (window row j) k h b)

module _ {A : Type 0} (o : Operations A) (input : ℕ → A) (c : Code A) where
  -- a converted digit reads its own place and the h places below it
  pub convert_ext : (r s : List ℕ) (j : ℕ) → ((i : ℕ) → i ≤ j → j ≤ i + depth c → get_or r i 0 ≡ get_or s i 0) → convert o input c r j ≡ convert o input c s j
  unfolding convert weight_at
  convert_ext r s j same =
      rw (same j (omega arith) (omega arith), weight_into_ext c r s j (λ i h l. same i (omega arith) l), weight_into_ext c r s (suc j) (λ i h l. same i (omega arith) (omega arith)))

  -- so a digit stored at place p changes the converted digits at p to p + h at most
  pub convert_set : (row : List ℕ) (p d j : ℕ) → (p ≤ j → j ≤ p + depth c → ⊥) → convert o input c (set row p d) j ≡ convert o input c row j
  convert_set row p d j outside = convert_ext (set row p d) row j (λ i h l. get_or-set_other row p i d 0 (λ e. outside (omega arith) (omega arith)))
