-- Pinned by layout_exact (proofs/Broken.antt): a reader may skip this file. Rules 1 and 2 of document 01 as a check: the file's size
-- and its directory.
use Rattle.std.specs.Prelude.{List, Bool, ◌&&◌, ◌||◌, ℕ, zero, suc, length, ltb, leb, eqb}
use Rattle.faults.specs.declared.Refusal.{Refusal}
use Rattle.faults.specs.Check.{judge, ◌then◌}
use Rattle.layout_rules.specs.Section.{section_start, section_end}

-- 1: file under 20 or over 65,535 bytes
unfoldable pub size_allowed : ℕ → Bool
size_allowed n = leb 20 n && leb n 65535

-- where a section must start: past the directory, or where the one before ends
unfoldable pub expected_start : List ℕ → ℕ → ℕ
expected_start file zero = 20
expected_start file (suc section) = section_end file section

-- 2: a directory pair breaks its rule, ends past the file, or is last and doesn't end it
unfoldable pub pair_allowed : List ℕ → ℕ → Bool
pair_allowed file section =
    eqb (section_start file section) (expected_start file section)
    && (leb (section_end file section) (length file) && (ltb section 4 || eqb (section_end file section) (length file)))

unfoldable pub directory_check : List ℕ → Refusal
directory_check file = judge 1 (λ k. k) (λ _. size_allowed (length file)) 1 then judge 2 (λ k. k) (pair_allowed file) 5
