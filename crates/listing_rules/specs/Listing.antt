-- For the programs' output only; a reader may skip this file. The lines of a table as the program `show` writes them.
use Rattle.std.specs.Prelude.{Bool, true, false, ◌&&◌, List, [], ◌++◌, ℕ, zero, suc, ◌*◌, max, ltb, eqb, ℤ, nat_abs, length, get_or}
use Rattle.layout_rules.specs.Section.{Section, record_count}
use Rattle.layout_rules.specs.Limit.{element_start, limit_check_in}
use Rattle.ring.specs.declared.Degree.{Degree}
use Rattle.ring.specs.declared.Degree.TheVariants.{Two, Three, Four}
use Rattle.ring.specs.Degree.{part_count}
use Rattle.ring.specs.Base.{base_trace, base_norm}
use Rattle.ring.specs.Product.{matrix_of}
use Rattle.ring.specs.Determinant.{determinant}
use Rattle.ring.specs.Tests.{expanding}
use Rattle.digit_rules.specs.Base.{omega_of, beta_of, sOf, tOf, uOf, vOf}
use Rattle.digit_rules.specs.Record.{element_at, record_at, element_count}
use Rattle.numeration.specs.LeafOf.{largest}
use Rattle.leaf_rules.specs.Leaf.{leaf_count}
use Rattle.leaf_rules.specs.Given.{word_given}
use Rattle.text_rules.specs.Bytes.{bytes_of}
use Rattle.text_rules.specs.Decimal.{decimal, decimal_z}
use Rattle.listing_rules.specs.Element.{element_text, right}

-- ω to the power of the degree, and the base, by the base section
unfoldable pub ring_line : Section → List ℕ
ring_line base =
    bytes_of "omega^" ++ (decimal (part_count base.degree) ++ (bytes_of " = " ++ (element_text (omega_of base) ++ (bytes_of ", base " ++ (element_text (beta_of base) ++ bytes_of "\n")))))

-- a base section of two elements, its numbers inside their size limits
unfoldable pub limited_base : Section → Bool
limited_base base = eqb (length base.bytes) (4 * part_count base.degree) && eqb (limit_check_in base 20 0).number 0

-- at degree two T, N and whether the base is expanding
unfoldable pub expanding_word : Bool → List ℕ
expanding_word true = bytes_of ", expanding\n"
expanding_word false = bytes_of ", not expanding\n"

unfoldable pub norm_line : ℤ → ℤ → ℤ → ℤ → List ℕ
norm_line s t u v =
    bytes_of "T = " ++ (decimal_z (base_trace s u v) ++ (bytes_of ", N = " ++ (decimal_z (base_norm s t u v) ++ expanding_word (expanding s t u v))))

-- above degree two N, the determinant of multiplication by the base, and whether rule 6 refuses it
unfoldable pub allowed_word : Bool → List ℕ
allowed_word true = bytes_of "\n"
allowed_word false = bytes_of ", refused by 6\n"

unfoldable pub determinant_line : ℤ → List ℕ
determinant_line n = bytes_of "N = " ++ (decimal_z n ++ allowed_word (ltb 1 (nat_abs n)))

abbrev pub determinant_of : Section → ℤ
determinant_of base = determinant (part_count base.degree) (matrix_of (omega_of base) (beta_of base))

abbrev pub norm_line_in : Degree → Section → List ℕ
norm_line_in Two base = norm_line (sOf base) (tOf base) (uOf base) (vOf base)
norm_line_in Three base = determinant_line (determinant_of base)
norm_line_in Four base = determinant_line (determinant_of base)

unfoldable pub norm_line_of : Section → List ℕ
norm_line_of base = norm_line_in base.degree base

-- a digit of a list, behind a space
unfoldable pub item_text : List ℤ → List ℕ
item_text x = bytes_of " " ++ element_text x

-- an input digit by its index: `?` where there is none
unfoldable pub input_text : Section → ℕ → List ℕ
input_text inputs k = elim (ltb k (element_count inputs)) [ true ↦ element_text (record_at inputs k) | false ↦ bytes_of "?" ]

-- the digit of a word in a column: none past its end, `?` where the word can't be read, which is then handed on empty
unfoldable pub digit_text : Section → List ℕ → ℕ → List ℕ
digit_text inputs word i =
    elim (ltb i (length word)) [ true ↦ input_text inputs (get_or word i 0) | false ↦ elim (eqb i 0) [ true ↦ bytes_of "?" | false ↦ [] ] ]

-- a column behind a space, and the first columns of a word
unfoldable pub column_text : ℕ → Section → List ℕ → ℕ → List ℕ
column_text width inputs word i = bytes_of " " ++ right width (digit_text inputs word i)

unfoldable pub word_text : ℕ → Section → List ℕ → ℕ → List ℕ
word_text width inputs word zero = []
word_text width inputs word (suc i) = word_text width inputs word i ++ column_text width inputs word i

-- the number of a leaf, its word and its weight
unfoldable pub leaf_line : ℕ → ℕ → ℕ → Section → List ℕ → ℕ → List ℤ → List ℕ
leaf_line columns width weights inputs word leaf weight =
    right 4 (decimal leaf)
    ++ (bytes_of ":" ++ (word_text width inputs word columns ++ (bytes_of " | " ++ (right weights (element_text weight) ++ bytes_of "\n"))))

-- the word of a leaf as it is shown: one that is longer than a word may be can't be read, and is handed on empty
unfoldable pub word_shown : Section → List ℕ → ℕ → List ℕ
word_shown leaves words k = elim (ltb 8 (length (word_given leaves words k))) [ true ↦ [] | false ↦ word_given leaves words k ]

-- how many columns words get: as many as the longest that is shown
unfoldable pub columns_for : Section → List ℕ → ℕ
columns_for leaves words = max 1 (largest (λ k. length (word_shown leaves words k)) (leaf_count leaves))

-- the longest text among the elements of a section's records
unfoldable pub widest : ℕ → Section → ℕ
widest section part =
    largest (λ k. length (element_text (element_at part (element_start part.degree section k)))) (record_count section part)
