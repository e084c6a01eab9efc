-- For helpers' contracts only: the string of two words.
use Rattle.std.specs.Prelude.{true, false, List, ◌++◌, ℕ, pred, leb, length, take}

-- from the top: the upper word's first digit, then the longer of its tail and the lower word
unfoldable pub word_string : List ℕ → List ℕ → List ℕ
word_string upper lower = elim (leb (pred (length upper)) (length lower)) [ true ↦ take 1 upper ++ lower | false ↦ upper ]
