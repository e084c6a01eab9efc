-- Mirrored tables, what the halves of document 02's job 3 are halves of: negating every digit of a word gives a word, and negates the weight.
-- Any map f of elements stands in negation's place, since the laws need no more; of a file it is negation (reader_rules, specs/Mirrored.antt).
use Rattle.std.specs.Prelude.{◌≡◌, ℕ, ◌<◌}
use Rattle.numeration.specs.Code.{Code}

module _ {A : Type 0} (f : A → A) (input : ℕ → A) (c : Code A) where
  -- leaf l has the word of leaf k with every digit negated, and its weight is negated
  pub record Mirrors (k l : ℕ) : Type 0 where
    pub size : c.size l ≡ c.size k
    pub digits : (i : ℕ) → i < c.size k → input (c.digit l i) ≡ f (input (c.digit k i))
    pub weight : c.weight l ≡ f (c.weight k)

  -- every leaf has such a leaf
  abbrev pub Mirrored : Type 0
  Mirrored = (k : ℕ) → k < c.leaves → (l : ℕ) × (l < c.leaves) × Mirrors k l
