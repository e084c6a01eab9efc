-- For the programs' output only; a reader may skip this file. The rules in short, as the program `why` writes them; docs/TABLES.md has them in
-- full.
use Rattle.std.specs.Prelude.{true, false, List, [], ℕ, eqb, ltb}
use Rattle.text_rules.specs.Bytes.{bytes_of}

-- of the file: 0 is said of a table that breaks none
unfoldable pub file_rule : ℕ → List ℕ
file_rule n =
    elim (eqb n 0) [
      | true ↦ bytes_of "nothing to show: every row of input digits is converted into alphabet digits\n"
      | false ↦ elim (eqb n 1) [
        | true ↦ bytes_of "rule 1: a table file has 20 to 65535 bytes\n"
        | false ↦ elim (eqb n 2) [
          | true ↦ bytes_of "rule 2: section 0 starts at byte 20, each other where the one before it ends, and section 4 ends the file\n"
          | false ↦ elim (eqb n 3) [
            | true ↦ bytes_of "rule 3: the lengths of sections 0 to 4 are 4d, 2 to 16 times 2d, 1 to 136 times 2d, 1 to 4000 times 4 + 2d, 1 to 32000; d is 2, 3 or 4\n"
            | false ↦ elim (eqb n 4) [
              | true ↦ bytes_of "rule 4: numbers are -64 to 64, those of a base of degree four -32 to 32, of input digits -128 to 128, of weights -1024 to 1024\n"
              | false ↦ []
            ]
          ]
        ]
      ]
    ]

-- of base and digits
unfoldable pub digit_rule : ℕ → List ℕ
digit_rule n =
    elim (eqb n 5) [
      | true ↦ bytes_of "rule 5: omega^2 = t + sw, and s^2 + 4t isn't the square of a whole number\n"
      | false ↦ elim (eqb n 6) [
        | true ↦ bytes_of "rule 6: at degree two |N| is 2 or more and |T| less than |N + 1|; at degree three and four N isn't -1, 0 or 1\n"
        | false ↦ elim (eqb n 7) [
          | true ↦ bytes_of "rule 7: record 0 of the alphabet is 0, and no record is the same as an earlier one\n"
          | false ↦ elim (eqb n 8) [
            | true ↦ bytes_of "rule 8: record 0 of the input digits is 0, none is the same as an earlier one, and all sums of two alphabet digits are there\n"
            | false ↦ []
          ]
        ]
      ]
    ]

-- of leaves
unfoldable pub leaf_rule : ℕ → List ℕ
leaf_rule n =
    elim (eqb n 9) [
      | true ↦ bytes_of "rule 9: a word has 1 to 8 bytes; the first starts at 0 in section 4, each other where one ends, and the last ends the section\n"
      | false ↦ elim (eqb n 10) [
        | true ↦ bytes_of "rule 10: each byte of a word is the number of an input digit, counted from 0\n"
        | false ↦ elim (eqb n 11) [
          | true ↦ bytes_of "rule 11: each word comes after the one before it, by number where they first differ, and neither begins the other\n"
          | false ↦ elim (eqb n 12) [
            | true ↦ bytes_of "rule 12: every string of eight input digits begins with the word of a leaf; here some string doesn't\n"
            | false ↦ elim (eqb n 13) [
              | true ↦ bytes_of "rule 13: leaf 0 has the weight 0, so that zeros stay zeros\n"
              | false ↦ elim (eqb n 14) [
                | true ↦ bytes_of "rule 14: where leaf U is used at a place and leaf L at the place below it, the digit that comes out is in the alphabet\n"
                | false ↦ []
              ]
            ]
          ]
        ]
      ]
    ]

unfoldable pub rule_line : ℕ → List ℕ
rule_line n = elim (ltb n 5) [ true ↦ file_rule n | false ↦ elim (ltb n 9) [ true ↦ digit_rule n | false ↦ leaf_rule n ] ]
