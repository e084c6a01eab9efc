-- Document 01, "Table file": five sections, each given by a pair (offset, length) of the directory. Document 02, job 8: the degree.
use Rattle.std.specs.Prelude.{true, false, List, [], ◌∷◌, ℕ, ◌+◌, ◌-◌, ◌*◌, ◌/◌, eqb, length, get_or, take, drop}
use Rattle.lists.specs.Span.{span}
use Rattle.ring.specs.declared.Degree.{Degree}
use Rattle.ring.specs.declared.Degree.TheVariants.{Two, Three, Four}
use Rattle.ring.specs.Degree.{part_count}
use Rattle.layout_rules.specs.Number.{unsigned_at}

-- "d from 2 to 4, told by the base section's length of 4d bytes"; of any other length two, by which 3 refuses section 0
unfoldable pub degree_of : ℕ → Degree
degree_of n = elim (eqb n 12) [ true ↦ Three | false ↦ elim (eqb n 16) [ true ↦ Four | false ↦ Two ] ]

-- the bytes of an element, and of a leaf: offset and length of its word, then its weight
abbrev pub element_size : Degree → ℕ
element_size d = 2 * part_count d

abbrev pub leaf_size : Degree → ℕ
leaf_size d = 4 + element_size d

-- the bytes of a record of each section: base (two elements: ω to the power d, and β), alphabet, input digits, leaves, words
abbrev pub record_size : Degree → ℕ → ℕ
record_size d section = get_or (element_size d ∷ element_size d ∷ element_size d ∷ leaf_size d ∷ 1 ∷ []) section 0

-- a section's bytes, and the degree by which its records are read
pub record Section : Type 0 where
  pub degree : Degree
  pub bytes : List ℕ

abbrev pub of_degree : Degree → List ℕ → Section
of_degree d bytes = record { degree = d; bytes = bytes }

-- how many records a section's part has
abbrev pub record_count : ℕ → Section → ℕ
record_count section part = length part.bytes / record_size part.degree section

-- where a section starts, its length and where it ends, as whole numbers
abbrev pub section_start : List ℕ → ℕ → ℕ
section_start file section = unsigned_at file (4 * section)

abbrev pub section_length : List ℕ → ℕ → ℕ
section_length file section = unsigned_at file (4 * section + 2)

abbrev pub section_end : List ℕ → ℕ → ℕ
section_end file section = section_start file section + section_length file section

-- a section as that part of the file, read by the file's degree
abbrev pub degree_in : List ℕ → Degree
degree_in file = degree_of (section_length file 0)

abbrev pub bytes_of : List ℕ → ℕ → List ℕ
bytes_of file section = take (section_end file section - section_start file section) (drop (section_start file section) file)

abbrev pub part_of : List ℕ → ℕ → Section
part_of file section = of_degree (degree_in file) (bytes_of file section)

-- the five lengths that a file's directory names
abbrev pub section_lengths : List ℕ → List ℕ
section_lengths file = span (section_length file) 0 5
