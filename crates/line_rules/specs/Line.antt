-- The program's line ("Value, midpoint, program" of document 01): `accepted depth h leaves L digits A` or `refused N place P`,
-- then one line feed. A text is the list of its bytes.
use Rattle.std.specs.Prelude.{List, [], ◌∷◌, ◌++◌, true, false, ℕ, ltb, length}
use Rattle.lists.specs.Overwrite.{overwrite}
use Rattle.faults.specs.Outcome.{Outcome, facts, refused}
use Rattle.text_rules.specs.Bytes.{bytes_of}
use Rattle.text_rules.specs.Decimal.{decimal}
use Rattle.text_rules.specs.Fault.{refused_word, place_word}
use Rattle.table_rules.specs.declared.Facts.{Facts}

-- the words of an accepted table, each before its number
unfoldable pub accepted_word : List ℕ
accepted_word = bytes_of "accepted depth "

unfoldable pub leaves_word : List ℕ
leaves_word = bytes_of " leaves "

unfoldable pub digits_word : List ℕ
digits_word = bytes_of " digits "

-- "one line feed, byte 10"
abbrev pub line_feed : List ℕ
line_feed = 10 ∷ []

-- the line of an accepted table
unfoldable pub accepted_line : ℕ → ℕ → ℕ → List ℕ
accepted_line h leaves digits =
    accepted_word ++ (decimal h ++ (leaves_word ++ (decimal leaves ++ (digits_word ++ (decimal digits ++ line_feed)))))

-- the line of a refused one
unfoldable pub refused_line : ℕ → ℕ → List ℕ
refused_line number place = refused_word ++ (decimal number ++ (place_word ++ (decimal place ++ line_feed)))

-- the line of an answer of the check; it has no group
unfoldable pub line_of : Outcome Facts → List ℕ
line_of (facts f) = accepted_line f.depth f.leaves f.digits
line_of (refused whose number place) = refused_line number place

-- the line written into a lent buffer, which needs 128 bytes, and the count of bytes written
unfoldable pub line_into : Outcome Facts → List ℕ → List ℕ
line_into outcome out = elim (ltb (length out) 128) [ true ↦ out | false ↦ overwrite out 0 (line_of outcome) ]

unfoldable pub line_count : Outcome Facts → ℕ → ℕ
line_count outcome room = elim (ltb room 128) [ true ↦ 0 | false ↦ length (line_of outcome) ]
