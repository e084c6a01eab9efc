-- A table as its file gives it (document 01, "Table file"): its sections, elements, leaves, and the value of a row.
use Rattle.std.specs.Prelude.{List, map, ℕ, ℤ}
use Rattle.ring.specs.Degree.{part_count}
use Rattle.layout_rules.specs.Section.{Section, bytes_of, part_of}
use Rattle.digit_rules.specs.Record.{element_count, record_at}
use Rattle.numeration.specs.Code.{Code}
use Rattle.leaf_rules.specs.Leaf.{code_of}
use Rattle.digit_rules.specs.BaseMatrix.{base_matrix}
use Rattle.numeration.specs.Group.{Operations}
use Rattle.numeration.specs.Elements.{elements}
use Rattle.numeration.specs.Value.{value}

-- the five sections
abbrev pub base_part : List ℕ → Section
base_part file = part_of file 0

abbrev pub alphabet_part : List ℕ → Section
alphabet_part file = part_of file 1

abbrev pub input_part : List ℕ → Section
input_part file = part_of file 2

abbrev pub leaf_part : List ℕ → Section
leaf_part file = part_of file 3

abbrev pub word_part : List ℕ → List ℕ
word_part file = bytes_of file 4

-- the ring's elements with multiplication by the base, by the bytes of section 0
abbrev pub system : Section → Operations (List ℤ)
system base = elements (part_count base.degree) (base_matrix base)

-- of a file: its elements with multiplication by its base, its count of input digits, and its leaves
abbrev pub operations_of : List ℕ → Operations (List ℤ)
operations_of file = system (base_part file)

abbrev pub input_count : List ℕ → ℕ
input_count file = element_count (input_part file)

abbrev pub leaves_in : List ℕ → Code (List ℤ)
leaves_in file = code_of (leaf_part file) (word_part file)

-- "The value of a row is the sum of its digits, each times β to the power of its place"
abbrev pub value_of : List ℕ → List ℕ → List ℤ
value_of file row = value (operations_of file) (map (record_at (alphabet_part file)) row)
