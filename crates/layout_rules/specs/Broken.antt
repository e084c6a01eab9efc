-- What it means that a rule of document 01 is broken at a place, in the paper's words.
use Rattle.std.specs.Prelude.{◌≡◌, List, [], ◌∷◌, ◌⊎◌, ℕ, zero, suc, ◌+◌, ◌-◌, ◌*◌, ◌<◌, ◌≤◌, length, get_or, nat_abs}
use Rattle.faults.specs.Rule.{Rule, rule}
use Rattle.layout_rules.specs.Number.{signed_at}
use Rattle.ring.specs.declared.Degree.{Degree}
use Rattle.ring.specs.Degree.{part_count, base_limit}
use Rattle.layout_rules.specs.Section.{degree_of, element_size, leaf_size, section_start, section_length, degree_in}

-- 1: file under 20 or over 65,535 bytes
abbrev pub Broken1 : List ℕ → ℕ → Type 0
Broken1 file p = (p ≡ 0) × ((length file < 20) ⊎ (65535 < length file))

-- "The first offset is 20, each next offset is the end of the pair before"
abbrev pub PairFollows : List ℕ → ℕ → Type 0
PairFollows file zero = section_start file 0 ≡ 20
PairFollows file (suc i) = section_start file (suc i) ≡ section_start file i + section_length file i

-- 2: a directory pair breaks its rule, ends past the file, or is last and doesn't end it (pair)
abbrev pub Broken2 : List ℕ → ℕ → Type 0
Broken2 file p =
    (p < 5)
    × (¬ (PairFollows file p)
    ⊎ (length file < section_start file p + section_length file p)
    ⊎ ((p ≡ 4) × ¬ (section_start file p + section_length file p ≡ length file)))

-- from least to most records of a size
abbrev pub Records : ℕ → ℕ → ℕ → ℕ → Type 0
Records size least most n = (count : ℕ) × (least ≤ count) × (count ≤ most) × (n ≡ count * size)

-- "the base section's length of 4d bytes. Alphabet: 2 to 16 records. Input digits: 1 to 136. Leaves: 1 to 4,000. Words: 1 to 32,000 bytes."
abbrev pub Allowed : Degree → ℕ → ℕ → Type 0
Allowed d zero n = n ≡ 4 * part_count d
Allowed d (suc zero) n = Records (element_size d) 2 16 n
Allowed d (suc (suc zero)) n = Records (element_size d) 1 136 n
Allowed d (suc (suc (suc zero))) n = Records (leaf_size d) 1 4000 n
Allowed d (suc (suc (suc (suc section)))) n = (1 ≤ n) × (n ≤ 32000)

-- 3: a section's length isn't allowed (section)
abbrev pub Broken3 : List ℕ → ℕ → Type 0
Broken3 lengths p = (p < 5) × ¬ (Allowed (degree_of (get_or lengths 0 0)) p (get_or lengths p 0))

-- p is where a part of the element of a record stands, in the section, and the number there is larger than the limit
pub record Outside (file : List ℕ) (section size limit p : ℕ) : Type 0 where
  pub index : ℕ
  pub part : ℕ
  pub of_element : part < part_count (degree_in file)
  pub in_section : (index + 1) * size ≤ section_length file section
  pub place : p ≡ section_start file section + (index * size + (size - element_size (degree_in file)) + 2 * part)
  pub large : limit < nat_abs (signed_at file p)

-- 4: a number outside its size limits (file offset): "s, t, u, v and alphabet parts −64 to 64; input parts −128 to 128;
-- weight parts −1,024 to 1,024"; "For d of 4 the base section's numbers are −32 to 32"
abbrev pub Broken4 : List ℕ → ℕ → Type 0
Broken4 file p =
    Outside file 0 (element_size (degree_in file)) (base_limit (degree_in file)) p ⊎ Outside file 1 (element_size (degree_in file)) 64 p
    ⊎ Outside file 2 (element_size (degree_in file)) 128 p ⊎ Outside file 3 (leaf_size (degree_in file)) 1024 p

-- in the order in which they run
abbrev pub directory_rules : List ℕ → List Rule
directory_rules file = rule 1 (Broken1 file) ∷ rule 2 (Broken2 file) ∷ []

abbrev pub length_rules : List ℕ → List Rule
length_rules lengths = rule 3 (Broken3 lengths) ∷ []

abbrev pub limit_rules : List ℕ → List Rule
limit_rules file = rule 4 (Broken4 file) ∷ []
