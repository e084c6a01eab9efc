-- For helpers' contracts only: the word and the weight of a leaf, given its number (document 01, "Conversion and addition").
use Rattle.std.specs.Prelude.{List, [], true, false, ◌&&◌, ℕ, ◌-◌, length, take, drop, ℤ, ltb, leb}
use Rattle.ring.specs.Padded.{width}
use Rattle.ring.specs.Element.{zeros}
use Rattle.layout_rules.specs.Section.{Section}
use Rattle.leaf_rules.specs.Leaf.{leaf_count, word_start, word_length, word_end, weight_of}

-- "From the number, one helper gives back its word as that part of the table itself": for any number and any bytes, nothing where
-- there is no such leaf or its record points outside section 4
unfoldable pub word_given : Section → List ℕ → ℕ → List ℕ
word_given leaves words k =
    elim (ltb k (leaf_count leaves) && leb (word_end leaves k) (length words)) [
      | true ↦ take (word_end leaves k - word_start leaves k) (drop (word_start leaves k) words)
      | false ↦ []
    ]

-- "A leaf look-up is to report its word's length too" (document 02, job 7): 0 where there is no such leaf
unfoldable pub length_given : Section → ℕ → ℕ
length_given leaves k = elim (ltb k (leaf_count leaves)) [ true ↦ word_length leaves k | false ↦ 0 ]

-- "and another gives its weight": zero where there is no such leaf
unfoldable pub weight_given : Section → ℕ → List ℤ
weight_given leaves k = elim (ltb k (leaf_count leaves)) [ true ↦ weight_of leaves k | false ↦ zeros width ]
