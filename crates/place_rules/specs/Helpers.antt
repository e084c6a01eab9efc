-- For helpers' contracts only: a part of a row of input indexes in an array, windows that begin with a leaf, that leaf, and leaves that are kept.
use Rattle.std.specs.Prelude.{◌≡◌, ℕ, ◌-◌, ◌<◌, ◌≤◌, length, get_or}
use mathlib.Core.List.{List, replicate}
use Rattle.layout_rules.specs.Section.{Section}
use Rattle.lists.specs.Span.{span}
use Rattle.lists.specs.Overwrite.{overwrite}
use Rattle.numeration.specs.Code.{HasLeaf}
use Rattle.numeration.specs.Conversion.{window, leaf_into}
use Rattle.leaf_rules.specs.Leaf.{leaf_count, word_length, code_of}
use Rattle.leaf_rules.specs.Window.{Sorted}

-- a row of 256 places with f at the places from i up to n, and zeros elsewhere
unfoldable pub part_row : (ℕ → ℕ) → ℕ → ℕ → List ℕ
part_row f i n = overwrite (replicate 256 0) i (span f i (n - i))

-- every window of a row begins with a leaf, and the look-up finds it
pub record Begun (leaves : Section) (words row : List ℕ) : Type 0 where
  pub sorted : Sorted (code_of leaves words)
  pub begun : (j : ℕ) → HasLeaf (code_of leaves words) (window row j)

-- the leaf that is looked up below place j, and its word's length
pub record IsLeaf (leaves : Section) (words row : List ℕ) (j leaf size : ℕ) : Type 0 where
  pub is_leaf : leaf ≡ leaf_into (code_of leaves words) row j
  pub is_size : size ≡ word_length leaves leaf
  pub listed : leaf < leaf_count leaves

-- leaves that are kept because they were looked up, in 256 slots that may hold none: the words of all of them are counted in the reach
pub record Counted (leaves : Section) (found : List ℕ) (reach : ℕ) : Type 0 where
  pub long : length found ≡ 256
  pub counted : (s : ℕ) → s < 256 → get_or found s 0 < leaf_count leaves → word_length leaves (get_or found s 0) ≤ reach
