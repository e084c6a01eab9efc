-- What a file that passes rules 1 to 4 gives to the stage of rules 5 to 8 and to the readers of digits.
use mathlib.Core.Path.{◌≡◌, refl, sym, ap, ◌∙◌}
use mathlib.Core.List.{List}
use Prim.Native.Nat.{ℕ, ◌+◌, ◌*◌, ◌<◌, ◌≤◌}
use native.Mathlib.Nat.{zero-add, le_antisymm}
use native.Mathlib.Omega.{arith}
use lib.IntN.{nat_abs}
use Rattle.lists.proofs.Each.{each}
use Rattle.ring.specs.declared.Degree.{Degree}
use Rattle.ring.specs.Degree.{part_count}
use Rattle.ring.specs.Tests.{Within}
use Rattle.ring.proofs.Padded.{within_padded}
use Rattle.ring.proofs.Element.{within_span}
use Rattle.layout_rules.specs.Number.{signed_at}
use Rattle.layout_rules.specs.Section.{element_size, record_size, Section, degree_in, part_of, section_lengths}
use Rattle.layout_rules.specs.Directory.{directory_check}
use Rattle.layout_rules.specs.Length.{length_check}
use Rattle.layout_rules.specs.Limit.{size_limit, limit_check}
use Rattle.layout_rules.proofs.Passed.{whole_records, within_element}
use Rattle.digit_rules.specs.Record.{parts_at, element_at}
use Rattle.digit_rules.specs.Digits.{RecordsWithin, BasePart}

pub element_within : (part : Section) (at n : ℕ) → ((k : ℕ) → k < part_count part.degree → nat_abs (signed_at part.bytes (at + 2 * k)) ≤ n) → Within n (element_at part at)
unfolding element_at parts_at
element_within part at n h = within_padded n _ (within_span n _ 0 (part_count part.degree) (λ k l. rw zero-add (h k l)))

-- base, alphabet and input digits
pub records_within : (file : List ℕ) → (limit_check file).number ≡ 0 → (section : ℕ) → section < 3 → RecordsWithin (size_limit (degree_in file) section) (part_of file section)
records_within file limits section known k l =
    element_within (part_of file section) (k * element_size (degree_in file)) (size_limit (degree_in file) section) (λ i h. within_element file limits section k i known (rw (bare (degree_in file) section known) l) h)
  where
    bare : (d : Degree) (section : ℕ) → section < 3 → record_size d section ≡ element_size d
    bare d = each (λ section. record_size d section ≡ element_size d) 3 (((tt, refl), refl), refl)

-- what the stage requires
pub base_ready : (file : List ℕ) → (directory_check file).number ≡ 0 → (length_check (section_lengths file)).number ≡ 0 → (limit_check file).number ≡ 0 → BasePart (part_of file 0)
base_ready file directory lengths limits =
    let is = whole_records file directory lengths 0 (omega arith) in
    record { long = sym is.whole ∙ ap (λ (n : ℕ). n * element_size (degree_in file)) (le_antisymm is.most is.least) ∙ doubled (degree_in file); small = records_within file limits 0 (omega arith) }
  where
    doubled : (d : Degree) → 2 * element_size d ≡ 4 * part_count d
    doubled d = omega arith
