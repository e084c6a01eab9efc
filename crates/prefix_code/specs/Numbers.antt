-- For helpers' contracts only: words by their numbers, a quick way to see that rules 11 and 12 hold.
use Rattle.std.specs.Prelude.{◌≡◌, ℕ, zero, suc, ◌+◌, ◌-◌, ◌^◌, ◌<◌, ◌≤◌}
use Rattle.numeration.specs.Code.{Code}
use Rattle.radix.specs.Number.{aligned}

-- the sum of the first n numbers
unfoldable pub sum : (ℕ → ℕ) → ℕ → ℕ
sum f zero = 0
sum f (suc n) = sum f n + f n

module _ {A : Type 0} (c : Code A) where
  -- the word of leaf k with zeros behind it, a byte to a digit
  abbrev pub word_number_of : ℕ → ℕ
  word_number_of k = aligned 256 (c.digit k) (c.size k)

  -- the least number above all strings of eight bytes that begin with the leaf before
  unfoldable pub floor_of : ℕ → ℕ
  floor_of zero = 0
  floor_of (suc k) = word_number_of k + 256 ^ (8 - c.size k)

  -- how many strings of eight of m input digits begin with leaf k
  abbrev pub strings_of : ℕ → ℕ → ℕ
  strings_of m k = m ^ (8 - c.size k)

  -- each word is above the one before, and all strings of eight begin with some leaf, by their count
  pub record Numbered (m : ℕ) : Type 0 where
    pub rising : (k : ℕ) → k < c.leaves → floor_of k ≤ word_number_of k
    pub whole : sum (strings_of m) c.leaves ≡ m ^ 8
