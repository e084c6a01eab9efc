-- For the programs' output only; a reader may skip this file. The lines of the program `why` that say what stands at the place of a refusal.
use Rattle.std.specs.Prelude.{true, false, List, ◌++◌, ℕ, ltb, ℤ, length}
use Rattle.layout_rules.specs.Section.{Section}
use Rattle.text_rules.specs.Bytes.{bytes_of}
use Rattle.text_rules.specs.Decimal.{decimal}
use Rattle.listing_rules.specs.Element.{element_text}
use Rattle.listing_rules.specs.Listing.{word_text}

-- two numbers, each behind a word
unfoldable pub numbered : List ℕ → ℕ → List ℕ → ℕ → List ℕ
numbered first a second b = (first ++ decimal a) ++ (second ++ decimal b)

-- the size of the file; a larger one isn't read to its end
unfoldable pub file_line : ℕ → List ℕ
file_line n =
    elim (ltb 65535 n) [
      | true ↦ bytes_of "  the file has more than 65535 bytes\n"
      | false ↦ (bytes_of "  the file has " ++ decimal n) ++ bytes_of " bytes\n"
    ]

-- where something starts and how long it is
unfoldable pub extent_line : List ℕ → ℕ → ℕ → ℕ → List ℕ
extent_line name k start size = numbered name k (bytes_of ": offset ") start ++ ((bytes_of ", length " ++ decimal size) ++ bytes_of "\n")

-- where it has to start, and the length of what it stands in
unfoldable pub due_line : ℕ → List ℕ → ℕ → List ℕ
due_line start name size = numbered (bytes_of "  the offset has to be ") start name size ++ bytes_of " bytes\n"

-- a byte of the words
unfoldable pub byte_line : ℕ → ℕ → List ℕ
byte_line k byte = numbered (bytes_of "  byte ") k (bytes_of " of section 4 is ") byte ++ bytes_of "\n"

-- the element of a place
unfoldable pub element_line : List ℕ → ℕ → List ℤ → List ℕ
element_line name k x = (name ++ decimal k) ++ (bytes_of " is " ++ (element_text x ++ bytes_of "\n"))

-- a leaf: its number, its word, its weight
unfoldable pub weight_text : List ℤ → List ℕ
weight_text weight = bytes_of ", weight " ++ (element_text weight ++ bytes_of "\n")

unfoldable pub why_leaf : List ℕ → ℕ → Section → List ℕ → List ℤ → List ℕ
why_leaf name leaf inputs word weight =
    (name ++ decimal leaf) ++ (bytes_of ": word" ++ (word_text 0 inputs word (length word) ++ weight_text weight))

-- the string that shows the two leaves of rule 14, and where each of them stands in it
unfoldable pub row_line : Section → List ℕ → List ℕ
row_line inputs string =
    bytes_of "  row, from the top:" ++ (word_text 0 inputs string (length string) ++ bytes_of "\n  U's word starts at its top place, L's word one place below\n")

-- an element in brackets behind a word
unfoldable pub bracketed : List ℕ → List ℤ → List ℕ
bracketed before x = before ++ (element_text x ++ bytes_of ")")

-- the digit as the paper has it: the first digit, plus the lower leaf's weight, minus the base times the upper leaf's weight
unfoldable pub sum_line : List ℤ → List ℤ → List ℤ → List ℤ → List ℕ
sum_line first lower base upper =
    bracketed (bytes_of "  digit at the top place = U's first digit + L's weight - base * U's weight\n    = (") first
    ++ (bracketed (bytes_of " + (") lower ++ (bracketed (bytes_of " - (") base ++ (bracketed (bytes_of "*(") upper ++ bytes_of "\n")))

-- the same with the product worked out
unfoldable pub product_line : List ℤ → List ℤ → List ℤ → List ℕ
product_line first lower product =
    bracketed (bytes_of "    = (") first ++ (bracketed (bytes_of " + (") lower ++ (bracketed (bytes_of " - (") product ++ bytes_of "\n"))

-- the digit that comes out, which the alphabet lacks; its digits follow
unfoldable pub digit_lines : List ℤ → List ℕ
digit_lines x = (bytes_of "    = " ++ element_text x) ++ (bytes_of "\n  " ++ (element_text x ++ bytes_of " isn't in the alphabet:"))
