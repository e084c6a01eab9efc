-- Pinned by layout_exact (proofs/Broken.antt): a reader may skip this file. Rule 4 of document 01 as a check: size limits, in file
-- order; the place is the file offset of the number's low byte.
use Rattle.std.specs.Prelude.{List, [], ◌∷◌, Bool, ℕ, ◌+◌, ◌-◌, ◌*◌, ◌/◌, ◌%◌, length, get_or, nat_abs, leb}
use Rattle.faults.specs.declared.Refusal.{Refusal}
use Rattle.faults.specs.Check.{judge, in_turn}
use Rattle.ring.specs.declared.Degree.{Degree}
use Rattle.ring.specs.Degree.{part_count, base_limit}
use Rattle.layout_rules.specs.Number.{signed_at}
use Rattle.layout_rules.specs.Section.{element_size, record_size, Section, section_start, part_of}

-- the limit on the size of the base section's numbers, of alphabet parts, of input parts and of weight parts
abbrev pub size_limit : Degree → ℕ → ℕ
size_limit d section = get_or (base_limit d ∷ 64 ∷ 128 ∷ 1024 ∷ []) section 0

-- where the element of a record starts in the part: it ends the record
abbrev pub element_start : Degree → ℕ → ℕ → ℕ
element_start d section index = index * record_size d section + (record_size d section - element_size d)

-- where the m-th number with a limit stands, in records of this size: an element ends its record
unfoldable pub number_place : Degree → ℕ → ℕ → ℕ
number_place d size m = m / part_count d * size + (size - element_size d) + 2 * (m % part_count d)

-- how many there are in a section of this length
unfoldable pub number_count : Degree → ℕ → ℕ → ℕ
number_count d size n = n / size * part_count d

-- 4: a number outside its size limits
unfoldable pub number_allowed : ℕ → ℕ → Section → ℕ → Bool
number_allowed size limit part m = leb (nat_abs (signed_at part.bytes (number_place part.degree size m))) limit

-- in one section, which starts at this offset
unfoldable pub limit_check_in : Section → ℕ → ℕ → Refusal
limit_check_in part start section =
    let size = record_size part.degree section in
    judge 4 (λ m. start + number_place part.degree size m) (number_allowed size (size_limit part.degree section) part)
    (number_count part.degree size (length part.bytes))

-- in the four sections that have elements, each handed on as that part of the file
unfoldable pub limit_check_of : List ℕ → ℕ → Refusal
limit_check_of file section = limit_check_in (part_of file section) (section_start file section) section

unfoldable pub limit_check : List ℕ → Refusal
limit_check file = in_turn (limit_check_of file) 0 4
