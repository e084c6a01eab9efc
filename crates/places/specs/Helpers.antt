-- For helpers' contracts only: the alphabet digits that a conversion has found so far, so that they needn't be looked for again; a digit that
-- comes out.
use Rattle.std.specs.Prelude.{◌≡◌, List, ℕ, ◌<◌, ℤ, get_or, Option}
use Rattle.lists.specs.Found.{below}
use Rattle.ring.specs.declared.Degree.{Degree}
use Rattle.ring.specs.Degree.{part_count}
use Rattle.layout_rules.specs.Section.{Section}
use Rattle.digit_rules.specs.Record.{record_at, element_count}
use Rattle.numeration.specs.Conversion.{out_digit}
use Rattle.numeration.specs.Elements.{elements}
use Rattle.leaf_rules.specs.Given.{weight_given}
use Rattle.place_rules.specs.Place.{alphabet_index}

-- alphabet digits that were found: each is the first record of its element
pub record Firsts (alphabet : Section) (slots : List ℕ) : Type 0 where
  pub first : (s : ℕ) → get_or slots s 0 < element_count alphabet → alphabet_index alphabet (record_at alphabet (get_or slots s 0)) ≡ get_or slots s 0

-- the index of the digit that an input digit and the weights of two leaves give, where it is in the alphabet
abbrev pub OutIndex : Degree → List (List ℤ) → Section → Section → Section → ℕ → ℕ → ℕ → Option ℕ → Type 0
OutIndex degree base alphabet inputs leaves input from_below own r =
    r ≡ below (element_count alphabet) (alphabet_index alphabet (out_digit (elements (part_count degree) base) (record_at inputs input) (weight_given leaves from_below) (weight_given leaves own)))
