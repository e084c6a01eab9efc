-- For the programs' output only; a reader may skip this file. What a call answers, as the lines of the outside vectors have it.
use Rattle.std.specs.Prelude.{Result, Ok, Err, List, ◌∷◌, ◌++◌, ℕ, ◌-◌, ℤ, length, take}
use Rattle.faults.specs.declared.Fault.{Fault}
use Rattle.ring.specs.declared.Degree.{Degree}
use Rattle.ring.specs.declared.Degree.TheVariants.{Two, Three, Four}
use Rattle.text_rules.specs.Bytes.{bytes_of}
use Rattle.text_rules.specs.Decimal.{decimal, decimal_z}
use Rattle.text_rules.specs.Fault.{fault_text}
use Rattle.text_rules.specs.Hex.{hex}
use Rattle.line_rules.specs.Line.{accepted_line}
use Rattle.midpoint.specs.declared.Element.{Element}
use Rattle.table_rules.specs.declared.Facts.{Facts}
use Rattle.adder_rules.specs.declared.AddedFacts.{AddedFacts}
use Rattle.edit_rules.specs.declared.EditedFacts.{EditedFacts}
use Rattle.forecast_rules.specs.declared.ForecastFacts.{ForecastFacts}
use Rattle.bad_row_rules.specs.declared.BadRow.{BadRow}

-- a whole buffer behind a space
unfoldable pub buffer_text : List ℕ → List ℕ
buffer_text bytes = 32 ∷ hex bytes

-- a word and a number, then another word and number
unfoldable pub counts_text : List ℕ → ℕ → List ℕ → ℕ → List ℕ
counts_text word n next m = word ++ (decimal n ++ (next ++ decimal m))

-- a part behind a space
unfoldable pub part_text : ℤ → List ℕ
part_text z = 32 ∷ decimal_z z

-- as many parts of an element as its degree says
unfoldable pub parts_text : Degree → Element → List ℕ
parts_text Two x = part_text x.a ++ part_text x.b
parts_text Three x = part_text x.a ++ (part_text x.b ++ part_text x.c)
parts_text Four x = part_text x.a ++ (part_text x.b ++ (part_text x.c ++ part_text x.d))

-- what an answer is told as: its facts in words, or its fault
abbrev pub answer_text : {F : Type 0} → (F → List ℕ) → Result F Fault → List ℕ
answer_text told (Ok facts) = told facts
answer_text told (Err fault) = fault_text fault

-- the line of `check` without its line feed, and the pairs
unfoldable pub checked_text : Facts → List ℕ
checked_text f =
    take (length (accepted_line f.depth f.leaves f.digits) - 1) (accepted_line f.depth f.leaves f.digits) ++ (bytes_of " pairs " ++ decimal f.pairs)

-- of addition and subtraction, each with a word of its own
unfoldable pub added_text : List ℕ → AddedFacts → List ℕ
added_text word f = counts_text word f.places (bytes_of " reach ") f.reach

unfoldable pub edited_text : EditedFacts → List ℕ
edited_text f = counts_text (bytes_of "changed ") f.count (bytes_of " reach ") f.reach

unfoldable pub forecasted_text : ForecastFacts → List ℕ
forecasted_text f = counts_text (bytes_of "pairs ") f.pairs (bytes_of " bytes ") f.bytes

unfoldable pub valued_text : Degree → Element → List ℕ
valued_text degree x = bytes_of "value" ++ parts_text degree x

-- of a bad row all but its string
unfoldable pub failing_text : Degree → BadRow → List ℕ
failing_text degree row = counts_text (bytes_of "pair ") row.upper (bytes_of " ") row.lower ++ (bytes_of " digit" ++ parts_text degree row.digit)
