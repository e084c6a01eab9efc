-- Pinned by layout_exact (proofs/Broken.antt): a reader may skip this file. Rule 3 of document 01 as a check: the lengths of the five
-- sections, which need not come from a file.
use Rattle.std.specs.Prelude.{List, [], ◌∷◌, Bool, ◌&&◌, ℕ, ◌*◌, ◌%◌, get_or, leb, eqb}
use Rattle.faults.specs.declared.Refusal.{Refusal}
use Rattle.faults.specs.Check.{judge}
use Rattle.ring.specs.declared.Degree.{Degree}
use Rattle.layout_rules.specs.Section.{degree_of, record_size}

-- the least and the most records of each section; the base section is two elements
abbrev pub least_records : ℕ → ℕ
least_records section = get_or (2 ∷ 2 ∷ 1 ∷ 1 ∷ 1 ∷ []) section 0

abbrev pub most_records : ℕ → ℕ
most_records section = get_or (2 ∷ 16 ∷ 136 ∷ 4000 ∷ 32000 ∷ []) section 0

-- 3: a section's length isn't allowed
unfoldable pub length_allowed : Degree → ℕ → ℕ → Bool
length_allowed d section n =
    eqb (n % record_size d section) 0
    && (leb (least_records section * record_size d section) n && leb n (most_records section * record_size d section))

abbrev pub section_allowed : List ℕ → ℕ → Bool
section_allowed lengths section = length_allowed (degree_of (get_or lengths 0 0)) section (get_or lengths section 0)

unfoldable pub length_check : List ℕ → Refusal
length_check lengths = judge 3 (λ k. k) (section_allowed lengths) 5
