-- For helpers' contracts only: words as numbers, and places among them.
use Rattle.std.specs.Prelude.{◌≡◌, List, ℕ, suc, ◌<◌, ◌≤◌, length, get_or}
use Rattle.radix.specs.Number.{aligned}
use Rattle.layout_rules.specs.Section.{Section}
use Rattle.numeration.specs.Code.{Precedes}
use Rattle.leaf_rules.specs.Leaf.{leaf_count, word_length, word_end, code_of}
use Rattle.prefix_rules.specs.Check.{leaf_check}

-- what the words' numbers need of leaves and words: one to eight digits, in section 4, each word above the previous one, and bytes
pub record WordsOrdered (leaves : Section) (words : List ℕ) : Type 0 where
  pub some : (k : ℕ) → k < leaf_count leaves → 1 ≤ word_length leaves k
  pub short : (k : ℕ) → k < leaf_count leaves → word_length leaves k ≤ 8
  pub inside : (k : ℕ) → k < leaf_count leaves → word_end leaves k ≤ length words
  pub ordered : (k : ℕ) → suc k < leaf_count leaves → Precedes (code_of leaves words) k (suc k)
  pub bytes : (i : ℕ) → get_or words i 0 < 256

-- the word of a leaf with zeros behind it, as a number
abbrev pub word_number : Section → List ℕ → ℕ → ℕ
word_number leaves words k = aligned 256 ((code_of leaves words).digit k) (word_length leaves k)

abbrev pub Keyed : Section → List ℕ → List ℕ → ℕ → Type 0
Keyed leaves words keys n = (k : ℕ) → k < n → get_or keys k 0 ≡ word_number leaves words k

-- leaves and words pass rules 9 to 13, over some number of input digits
abbrev pub LeavesPass : Section → List ℕ → Type 0
LeavesPass leaves words = (m : ℕ) × (0 < m) × ((leaf_check leaves words m).number ≡ 0)

-- of the places from `from` up to `end`, the first whose number is above the bound isn't below `low` nor above `high`
pub record Between (keys : List ℕ) (bound from end low high : ℕ) : Type 0 where
  pub from_low : from ≤ low
  pub in_order : low ≤ high
  pub to_end : high ≤ end
  pub before : (k : ℕ) → from ≤ k → suc k ≡ low → get_or keys k 0 ≤ bound
  pub above : high < end → bound < get_or keys high 0

abbrev pub FirstAbove : List ℕ → ℕ → ℕ → ℕ → ℕ → Type 0
FirstAbove keys bound from end r = Between keys bound from end r r

-- the last place of `end` whose number is at most the bound; place 0 where none is
pub record LastLow (keys : List ℕ) (bound end r : ℕ) : Type 0 where
  pub inside : r < end
  pub low : 0 < r → get_or keys r 0 ≤ bound
  pub last : suc r < end → bound < get_or keys (suc r) 0
