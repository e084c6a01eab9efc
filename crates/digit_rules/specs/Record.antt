-- Elements as they stand in the table file (document 01, "Table file"; document 02, job 8): signed 16-bit parts, lowest power first.
use Rattle.std.specs.Prelude.{List, ℕ, ◌+◌, ◌*◌, ℤ}
use Rattle.lists.specs.Span.{span}
use Rattle.ring.specs.Degree.{part_count}
use Rattle.ring.specs.Padded.{padded}
use Rattle.layout_rules.specs.Number.{signed_at}
use Rattle.layout_rules.specs.Section.{element_size, record_count, Section}

-- the parts whose first byte stands at a place, as many as the degree says
unfoldable pub parts_at : Section → ℕ → List ℤ
parts_at part at = span (λ k. signed_at part.bytes (at + 2 * k)) 0 (part_count part.degree)

-- the element of these parts: those above the degree are zero
unfoldable pub element_at : Section → ℕ → List ℤ
element_at part at = padded (parts_at part at)

-- record k of a section of elements, and how many there are
abbrev pub record_at : Section → ℕ → List ℤ
record_at part k = element_at part (k * element_size part.degree)

abbrev pub element_count : Section → ℕ
element_count part = record_count 1 part
