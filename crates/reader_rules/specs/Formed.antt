-- Pinned by well_formed (proofs/Formed.antt): it holds exactly where no rule of Broken.antt is broken. Document 01, "Ring and base" and
-- "Table file": what a table file is, as plain statements.
use Rattle.std.specs.Prelude.{◌≡◌, List, ℕ, ◌<◌, ◌≤◌, length}
use Rattle.layout_rules.specs.Section.{section_length, section_end, degree_in}
use Rattle.ring.specs.Degree.{base_limit}
use Rattle.layout_rules.specs.Broken.{PairFollows, Allowed}
use Rattle.ring.specs.Tests.{Within}
use Rattle.digit_rules.specs.Record.{element_count}
use Rattle.digit_rules.specs.Digits.{RecordsWithin}
use Rattle.digit_rules.specs.Formed.{DigitsFormed}
use Rattle.leaf_rules.specs.Leaf.{leaf_count, weight_of}
use Rattle.prefix_rules.specs.Formed.{LeavesFormed}
use Rattle.reader_rules.specs.Table.{base_part, alphabet_part, input_part, leaf_part, word_part}

pub record WellFormed (file : List ℕ) : Type 0 where
  -- no "file under 20 or over 65,535 bytes"
  pub low : 20 ≤ length file
  pub high : length file ≤ 65535
  -- "The first offset is 20, each next offset is the end of the pair before"
  pub follows : (section : ℕ) → section < 5 → PairFollows file section
  -- each section is "part of the file", "and the last end is the file's length"
  pub inside : (section : ℕ) → section < 5 → section_end file section ≤ length file
  pub last : section_end file 4 ≡ length file
  -- "the base section's length of 4d bytes", "Alphabet: 2 to 16 records", "Input digits: 1 to 136 records", "Leaves: 1 to 4,000 records", "Words: 1 to
  -- 32,000 bytes"
  pub lengths : (section : ℕ) → section < 5 → Allowed (degree_in file) section (section_length file section)
  -- "s, t, u, v and alphabet parts −64 to 64; input parts −128 to 128; weight parts −1,024 to 1,024"; "For d of 4 the base section's numbers are −32 to 32"
  pub base_limits : RecordsWithin (base_limit (degree_in file)) (base_part file)
  pub alphabet_limits : RecordsWithin 64 (alphabet_part file)
  pub input_limits : RecordsWithin 128 (input_part file)
  pub weight_limits : (k : ℕ) → k < leaf_count (leaf_part file) → Within 1024 (weight_of (leaf_part file) k)
  -- at degree two s² + 4t is no square and the base is expanding, above it the determinant is none of −1, 0, 1; "Record 0 of sections 1 and 2 is the digit zero", no record repeats another, and "the
  -- input digits hold every sum and may hold further digits" (document 02, job 2)
  pub digits : DigitsFormed (base_part file) (alphabet_part file) (input_part file)
  -- "Leaf words are 1 to 8 long and follow one another in section 4 without gaps, in increasing order of index at the first place
  -- where neighbours differ. No word begins another. Leaf 0 has the weight zero. Every string of eight input digits begins with a
  -- leaf", and each byte of section 4 is "the index of an input digit"
  pub leaves : LeavesFormed (leaf_part file) (word_part file) (element_count (input_part file))
