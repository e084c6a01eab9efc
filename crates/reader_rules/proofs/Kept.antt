-- What a file that passes rules 1 to 4 gives.
use mathlib.Core.Path.{◌≡◌, ap}
use mathlib.Core.List.{List}
use Prim.Native.Nat.{ℕ, ◌≤◌, ◌<◌}
use lib.ListN.{length}
use Rattle.faults.specs.declared.Refusal.{Refusal}
use Rattle.faults.specs.Check.{none, ◌then◌}
use Rattle.faults.proofs.Check.{then_kept}
use Rattle.ring.specs.declared.Degree.{Degree}
use Rattle.layout_rules.specs.Section.{of_degree, section_end, degree_in, bytes_of, part_of, section_lengths}
use Rattle.layout_rules.specs.Directory.{directory_check}
use Rattle.layout_rules.specs.Length.{length_check}
use Rattle.layout_rules.specs.Limit.{limit_check}
use lib.Dec.{lit<}
use Rattle.layout_rules.proofs.Laid.{laid}
use Rattle.layout_rules.proofs.Passed.{whole_records}
use Rattle.digit_rules.specs.Digits.{BasePart}
use Rattle.digit_rules.specs.Record.{element_count}
use Rattle.digit_rules.proofs.Passed.{base_ready}
use Rattle.prefix_rules.specs.Check.{leaf_check}
use Rattle.reader_rules.specs.Table.{base_part, input_part, leaf_part, word_part}
use Rattle.reader_rules.specs.Check.{layout_check, digit_check_of, leaf_check_of, table_check}

-- what a stage that found nothing says of its definition
pub no_number : (a : Refusal) → a ≡ none → a.number ≡ 0
no_number a e = ap (λ (r : Refusal). r.number) e

-- rules 1 and 2, 3, and 4, each found nothing
pub layout_kept : (file : List ℕ) → (layout_check file).number ≡ 0 → ((directory_check file).number ≡ 0) × ((length_check (section_lengths file)).number ≡ 0) × ((limit_check file).number ≡ 0)
unfolding layout_check
layout_kept file h =
    let first = then_kept (directory_check file) (length_check (section_lengths file) then limit_check file) h in
    let rest = then_kept (length_check (section_lengths file)) (limit_check file) first.1 in
    (first.0, rest.0, rest.1)

-- rules 1 to 4, 5 to 8, and 9 to 13, each found nothing
pub table_kept : (file : List ℕ) → (table_check file).number ≡ 0 → ((layout_check file).number ≡ 0) × ((digit_check_of file).number ≡ 0) × ((leaf_check_of file).number ≡ 0)
unfolding table_check
table_kept file h =
    let first = then_kept (layout_check file) (digit_check_of file then leaf_check_of file) h in
    let rest = then_kept (digit_check_of file) (leaf_check_of file) first.1 in
    (first.0, rest.0, rest.1)

pub directory_room : (file : List ℕ) → (directory_check file).number ≡ 0 → 20 ≤ length file
directory_room file h = (laid file h).low

pub section_room : (file : List ℕ) → (directory_check file).number ≡ 0 → (section : ℕ) → section < 5 → section_end file section ≤ length file
section_room file h section l = ((laid file h).placed section l).inside

-- a section by the degree and the bytes as they were read
pub section_is : (file : List ℕ) (d : Degree) (bytes : List ℕ) (section : ℕ) → d ≡ degree_in file → bytes ≡ bytes_of file section → of_degree d bytes ≡ part_of file section
section_is file d bytes section told are = λ i. of_degree (told i) (are i)

-- what rule 14 and conversion ask of the sections of a table that passes
pub record Sections (file : List ℕ) : Type 0 where
  pub base : BasePart (base_part file)
  pub some_input : 0 < element_count (input_part file)
  pub leaves : (leaf_check (leaf_part file) (word_part file) (element_count (input_part file))).number ≡ 0

pub sections : (file : List ℕ) → (table_check file).number ≡ 0 → Sections file
unfolding leaf_check_of
sections file h =
    let kept = table_kept file h in
    let laid = layout_kept file kept.0 in
    record { base = base_ready file laid.0 laid.1 laid.2; some_input = (whole_records file laid.0 laid.1 2 (lit< tt)).least; leaves = kept.2 }
