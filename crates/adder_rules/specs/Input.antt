-- Pinned by digits_combined and combined (proofs/Combined.antt): a reader may skip this file. The row of input indexes that is converted, and the
-- alphabet indexes of the digits that come out.
use Rattle.std.specs.Prelude.{List, ℕ, length}
use Rattle.lists.specs.Span.{span}
use Rattle.ring.specs.declared.Operation.{Operation}
use Rattle.reader_rules.specs.Table.{alphabet_part, input_part, leaf_part, word_part, operations_of}
use Rattle.place_rules.specs.Place.{input_at, index_at}

module _ (op : Operation) (file : List ℕ) where
  -- "w(j) is the sum of the two digits at place j", in subtraction the first minus the second: its input index, and the row of them
  abbrev pub input_of : List ℕ → List ℕ → ℕ → ℕ
  input_of first second j = input_at op (alphabet_part file) (input_part file) first second j

  unfoldable pub input_row : List ℕ → List ℕ → List ℕ
  input_row first second = span (input_of first second) 0 (length first)

-- the alphabet index of z(j)
abbrev pub row_index : List ℕ → List ℕ → ℕ → ℕ
row_index file row j = index_at (operations_of file) (alphabet_part file) (input_part file) (leaf_part file) (word_part file) row j
