-- Pinned by input_is and index_names (proofs/Place.antt): a reader may skip this file. Conversion place by place (document 01, "Conversion
-- and addition"): a row of input indexes, and the digits that come out of it.
use Rattle.std.specs.Prelude.{Bool, List, ℕ, get_or, ℤ}
use Rattle.layout_rules.specs.Section.{Section}
use Rattle.ring.specs.declared.Operation.{Operation}
use Rattle.digit_rules.specs.Record.{record_at, element_count}
use Rattle.digit_rules.specs.Digits.{index_in, pair_index}
use Rattle.numeration.specs.Group.{Operations}
use Rattle.numeration.specs.Conversion.{convert}
use Rattle.leaf_rules.specs.Leaf.{code_of}
use Rattle.table_rules.specs.Pairs.{in_alphabet}

-- "w(j) is the sum of the two digits at place j", in subtraction the first minus the second: its input index
abbrev pub input_at : Operation → Section → Section → List ℕ → List ℕ → ℕ → ℕ
input_at op alphabet inputs first second j = pair_index op alphabet inputs (get_or first j 0) (get_or second j 0)

-- the alphabet index of an element; the alphabet's size where it isn't in the alphabet
abbrev pub alphabet_index : Section → List ℤ → ℕ
alphabet_index alphabet x = index_in alphabet (element_count alphabet) x

module _ (o : Operations (List ℤ)) (alphabet inputs leaves : Section) (words row : List ℕ) where
  -- z(j), its alphabet index, and whether it has one
  abbrev pub digit_at : ℕ → List ℤ
  digit_at j = convert o (record_at inputs) (code_of leaves words) row j

  unfoldable pub index_at : ℕ → ℕ
  index_at j = alphabet_index alphabet (digit_at j)

  abbrev pub digit_allowed : ℕ → Bool
  digit_allowed j = in_alphabet alphabet (digit_at j)
