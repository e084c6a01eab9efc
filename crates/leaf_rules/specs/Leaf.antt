-- Leaves (document 01, "Table file"): the offset and the length of a word in section 4, then the weight. Sections 3 and 4 are lists
-- of bytes, from a file or not.
use Rattle.std.specs.Prelude.{List, ℕ, ◌+◌, ◌*◌, get_or, ℤ}
use Rattle.layout_rules.specs.Number.{unsigned_at}
use Rattle.layout_rules.specs.Section.{leaf_size, record_count, Section}
use Rattle.digit_rules.specs.Record.{element_at}
use Rattle.numeration.specs.Code.{Code}

abbrev pub leaf_count : Section → ℕ
leaf_count leaves = record_count 3 leaves

-- where the word of leaf k starts in section 4, its length and where it ends, as whole numbers
abbrev pub word_start : Section → ℕ → ℕ
word_start leaves k = unsigned_at leaves.bytes (k * leaf_size leaves.degree)

abbrev pub word_length : Section → ℕ → ℕ
word_length leaves k = unsigned_at leaves.bytes (k * leaf_size leaves.degree + 2)

abbrev pub word_end : Section → ℕ → ℕ
word_end leaves k = word_start leaves k + word_length leaves k

abbrev pub weight_of : Section → ℕ → List ℤ
weight_of leaves k = element_at leaves (k * leaf_size leaves.degree + 4)

-- the leaves with their words and weights
abbrev pub code_of : Section → List ℕ → Code (List ℤ)
code_of leaves words =
    record {
      leaves = leaf_count leaves;
      size = word_length leaves;
      digit = λ k i. get_or words (word_start leaves k + i) 0;
      weight = weight_of leaves;
    }
