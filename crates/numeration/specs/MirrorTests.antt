-- For the laws only: `Mirrored` as a test, by a test of equality of elements, so that it can be computed of a table.
use Rattle.std.specs.Prelude.{Bool, ◌&&◌, not, ℕ, eqb, ltb}
use Rattle.lists.specs.Scan.{first_failing, every}
use Rattle.numeration.specs.Code.{Code}

module _ {A : Type 0} (same : A → A → Bool) (f : A → A) (input : ℕ → A) (c : Code A) where
  unfoldable pub mirrors : ℕ → ℕ → Bool
  mirrors k l =
      eqb (c.size l) (c.size k) && (every (λ i. same (input (c.digit l i)) (f (input (c.digit k i)))) 0 (c.size k) && same (c.weight l) (f (c.weight k)))

  -- the first leaf that mirrors leaf k; the leaf count where none does
  unfoldable pub mirror_of : ℕ → ℕ
  mirror_of k = first_failing (λ l. not (mirrors k l)) 0 c.leaves

  unfoldable pub mirrored : Bool
  mirrored = every (λ k. ltb (mirror_of k) c.leaves) 0 c.leaves
