-- Pinned by one_leaf, size_depth and depth_reached (proofs/Laws.antt, proofs/Leaves.antt): a reader may skip this file. The leaf of a
-- window and the depth, as they are computed.
use Rattle.std.specs.Prelude.{Bool, not, ℕ, zero, suc, max, eqb}
use Rattle.lists.specs.Scan.{first_failing, every}
use Rattle.numeration.specs.Code.{Code}

-- two strings agree at the first n places
unfoldable pub agree : (ℕ → ℕ) → (ℕ → ℕ) → ℕ → Bool
agree v w n = every (λ i. eqb (v i) (w i)) 0 n

-- the largest of the n numbers f 0, f 1, ..
unfoldable pub largest : (ℕ → ℕ) → ℕ → ℕ
largest f zero = 0
largest f (suc n) = max (largest f n) (f n)

module _ {A : Type 0} (c : Code A) where
  -- "begins": the leaf's word is the start of the string
  unfoldable pub begins : ℕ → (ℕ → ℕ) → Bool
  begins k w = agree (c.digit k) w (c.size k)

  -- "the one leaf whose word begins": the first that does
  unfoldable pub leaf_of : (ℕ → ℕ) → ℕ
  leaf_of w = first_failing (λ k. not (begins k w)) 0 c.leaves

  -- "The depth h is the longest word length"
  unfoldable pub depth : ℕ
  depth = largest c.size c.leaves
