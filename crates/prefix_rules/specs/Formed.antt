-- Pinned by formed and formed_passes (proofs/Formed.antt): it holds exactly where no rule of Broken.antt is broken. What rules 9 to 13 ask of leaves and words over m input digits.
use Rattle.std.specs.Prelude.{◌≡◌, List, ℕ, suc, ◌+◌, ◌<◌, ◌≤◌, length, get_or}
use Rattle.ring.specs.Padded.{width}
use Rattle.ring.specs.Element.{zeros}
use Rattle.layout_rules.specs.Section.{Section}
use Rattle.numeration.specs.Code.{Code, Inputs, Begins, Precedes}
use Rattle.numeration.specs.Prefix.{Separate}
use Rattle.leaf_rules.specs.Leaf.{leaf_count, word_length, word_end, weight_of, code_of}
use Rattle.prefix_rules.specs.Broken.{WordFollows}

-- exactly one leaf begins a string
abbrev pub OneLeaf : {A : Type 0} → Code A → (ℕ → ℕ) → Type 0
OneLeaf c w = (k : ℕ) × (k < c.leaves) × Begins c k w × ((l : ℕ) → l < c.leaves → Begins c l w → l ≡ k)

pub record LeavesFormed (leaves : Section) (words : List ℕ) (m : ℕ) : Type 0 where
  -- "Leaf words are 1 to 8 long and follow one another in section 4 without gaps"
  pub some : (k : ℕ) → k < leaf_count leaves → 1 ≤ word_length leaves k
  pub short : (k : ℕ) → k < leaf_count leaves → word_length leaves k ≤ 8
  pub follows : (k : ℕ) → k < leaf_count leaves → WordFollows leaves k
  pub inside : (k : ℕ) → k < leaf_count leaves → word_end leaves k ≤ length words
  pub last : (k : ℕ) → k + 1 ≡ leaf_count leaves → word_end leaves k ≡ length words
  -- "Words: 1 to 32,000 bytes, each the index of an input digit"
  pub indexes : Inputs m words
  -- "in increasing order of index at the first place where neighbours differ. No word begins another."
  pub ordered : (k : ℕ) → suc k < leaf_count leaves → Precedes (code_of leaves words) k (suc k)
  pub separate : Separate (code_of leaves words)
  -- "Every string of eight input digits begins with a leaf", and with one only
  pub strings : (s : List ℕ) → length s ≡ 8 → Inputs m s → OneLeaf (code_of leaves words) (λ i. get_or s i 0)
  -- "Leaf 0 has the weight zero"
  pub zero_first : weight_of leaves 0 ≡ zeros width
