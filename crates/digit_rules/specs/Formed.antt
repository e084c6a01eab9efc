-- Pinned by formed and formed_passes (proofs/Formed.antt): it holds exactly where no rule of Broken.antt is broken. What rules 5 to 8 ask of base, alphabet and input digits.
use Rattle.std.specs.Prelude.{◌≡◌, List, ℕ, ◌<◌, ℤ}
use Rattle.layout_rules.specs.Section.{Section}
use Rattle.ring.specs.Padded.{width}
use Rattle.ring.specs.Element.{zeros}
use Rattle.ring.specs.declared.Operation.{Operation}
use Rattle.ring.specs.Operation.{combine}
use Rattle.digit_rules.specs.Record.{record_at, element_count}
use Rattle.digit_rules.specs.Broken.{BadSquare, BadBase, Sum, Listed}

-- "Record 0 of sections 1 and 2 is the digit zero", and no record repeats another
pub record DigitList (part : Section) : Type 0 where
  pub zero_first : 0 < element_count part → record_at part 0 ≡ zeros width
  pub distinct : (i j : ℕ) → i < element_count part → j < element_count part → record_at part i ≡ record_at part j → i ≡ j

-- "the input digits hold every sum and may hold further digits" (document 02, job 2), each once
pub record DigitsFormed (base alphabet inputs : Section) : Type 0 where
  pub no_square : ¬ (BadSquare base.degree base)
  pub good_base : ¬ (BadBase base.degree base)
  pub alphabet_digits : DigitList alphabet
  pub input_digits : DigitList inputs
  pub all_sums : (x : List ℤ) → Sum alphabet x → Listed inputs x

-- what the operation makes of any two alphabet digits is an input digit
abbrev pub AllListed : Operation → Section → Section → Type 0
AllListed op alphabet inputs =
    (i j : ℕ) → i < element_count alphabet → j < element_count alphabet → Listed inputs (combine op (record_at alphabet i) (record_at alphabet j))
