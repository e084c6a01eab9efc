-- What a file that passes rules 1 to 4 gives to its readers.
use mathlib.Core.Path.{◌≡◌, sym, ap, ◌∙◌}
use mathlib.Core.Bool.{true}
use mathlib.Core.List.{List}
use Prim.Native.Nat.{ℕ, ◌+◌, ◌*◌, ◌<◌, ◌≤◌}
use native.Mathlib.Omega.{arith}
use native.Mathlib.Nat.{le-div_iff_mul-le, div-le_of_le-mul, div-add-mod', mul_comm, zero-add}
use lib.ListN.{length, get_or}
use lib.IntN.{nat_abs}
use borrow.Author.Tests.{leb-true}
use Rattle.lists.proofs.Each.{each}
use Rattle.lists.proofs.Span.{get_d_span}
use Rattle.faults.proofs.Check.{judge_passed, turn_kept}
use Rattle.ring.specs.declared.Degree.{Degree}
use Rattle.ring.specs.declared.Degree.TheVariants.{Two, Three, Four}
use Rattle.ring.specs.Degree.{part_count}
use Rattle.layout_rules.specs.Number.{signed_at}
use Rattle.layout_rules.specs.Section.{degree_of, element_size, record_size, record_count, Section, section_length, section_end, degree_in, bytes_of, part_of, section_lengths}
use Rattle.layout_rules.specs.Limit.{element_start, size_limit, number_count, number_allowed, limit_check_in, limit_check_of, limit_check}
use Rattle.layout_rules.specs.Directory.{directory_check}
use Rattle.layout_rules.specs.Length.{least_records, most_records, length_allowed, section_allowed, length_check}
use Rattle.layout_rules.proofs.Laid.{Laid, laid, part_length}
use Rattle.layout_rules.proofs.Length.{sized}
use Rattle.layout_rules.proofs.Limit.{element_held, number_of, number_counted}
use Rattle.layout_rules.proofs.Broken.{Counted, counted}

-- a section as a part of the file, in whole records
pub record WholeRecords (file : List ℕ) (section : ℕ) : Type 0 where
  pub inside : section_end file section ≤ length file
  pub small : length file ≤ 65535
  pub long : length (bytes_of file section) ≡ section_length file section
  pub whole : record_count section (part_of file section) * record_size (degree_in file) section ≡ length (bytes_of file section)
  pub least : least_records section ≤ record_count section (part_of file section)
  pub most : record_count section (part_of file section) ≤ most_records section

pub whole_records : (file : List ℕ) → (directory_check file).number ≡ 0 → (length_check (section_lengths file)).number ≡ 0 → (section : ℕ) → section < 5 → WholeRecords file section
unfolding length_check
whole_records file directory lengths section known =
    record {
      inside = (is.placed section known).inside;
      small = is.high;
      long = long;
      whole = omega (arith, div-add-mod' (length (bytes_of file section)) (record_size (degree_in file) section), count.0);
      least = (le-div_iff_mul-le some).1 count.1;
      most = div-le_of_le-mul (record_size (degree_in file) section) (rw (mul_comm (most_records section) (record_size (degree_in file) section)) at count.2);
    }
  where
    is : Laid file
    is = laid file directory

    some : 0 < record_size (degree_in file) section
    some = (sized (degree_in file) section known).some

    long : length (bytes_of file section) ≡ section_length file section
    long = part_length file is section known

    same : get_or (section_lengths file) section 0 ≡ length (bytes_of file section)
    same = get_d_span (section_length file) 0 5 section 0 known ∙ ap (section_length file) (zero-add section) ∙ sym long

    -- the first of the lengths is that of section 0
    told : degree_of (get_or (section_lengths file) 0 0) ≡ degree_in file
    told = ap degree_of (get_d_span (section_length file) 0 5 0 0 (omega arith))

    allowed : length_allowed (degree_in file) section (get_or (section_lengths file) section 0) ≡ true
    allowed = ap (λ (d : Degree). length_allowed d section (get_or (section_lengths file) section 0)) (sym told) ∙ judge_passed 3 (λ k. k) (section_allowed (section_lengths file)) 5 (omega arith) lengths section known

    count : Counted (degree_in file) section (length (bytes_of file section))
    count = (counted (degree_in file) section _).0 (ap (length_allowed (degree_in file) section) (sym same) ∙ allowed)

-- every number with a limit is within it: of a part, from a file or not
pub within_limit : (part : Section) (start section : ℕ) → (limit_check_in part start section).number ≡ 0 → (index k : ℕ) → section < 4 → index < record_count section part → k < part_count part.degree
    → nat_abs (signed_at part.bytes (element_start part.degree section index + 2 * k)) ≤ size_limit part.degree section
unfolding limit_check_in number_allowed
within_limit part start section limits index k known l h = rw (← number_of part.degree (record_size part.degree section) held index k h) (leb-true _ _ allowed)
  where
    held : element_size part.degree ≤ record_size part.degree section
    held = element_held part.degree section known

    counts : index * part_count part.degree + k < number_count part.degree (record_size part.degree section) (length part.bytes)
    counts = number_counted part.degree (record_size part.degree section) held _ index k h ((le-div_iff_mul-le {k = record_size part.degree section} {x = index + 1} (sized part.degree section (omega arith)).some).0 (omega arith))

    allowed : number_allowed (record_size part.degree section) (size_limit part.degree section) part (index * part_count part.degree + k) ≡ true
    allowed = judge_passed 4 _ _ _ (omega arith) limits (index * part_count part.degree + k) counts

pub within : (file : List ℕ) → (limit_check file).number ≡ 0 → (section index k : ℕ) → section < 4 → index < record_count section (part_of file section) → k < part_count (degree_in file)
    → nat_abs (signed_at (bytes_of file section) (element_start (degree_in file) section index + 2 * k)) ≤ size_limit (degree_in file) section
unfolding limit_check limit_check_of
within file limits section index k known l h =
    within_limit (part_of file section) _ section (turn_kept (limit_check_of file) 0 4 limits section (omega arith) (omega arith)) index k known l h

-- the same in a section whose records are elements and nothing else
pub within_element : (file : List ℕ) → (limit_check file).number ≡ 0 → (section index k : ℕ) → section < 3 → index < record_count section (part_of file section) → k < part_count (degree_in file)
    → nat_abs (signed_at (bytes_of file section) (index * element_size (degree_in file) + 2 * k)) ≤ size_limit (degree_in file) section
within_element file limits section index k known l h =
    rw (ap (λ (n : ℕ). n + 2 * k) (bare (degree_in file) section known)) at (within file limits section index k (omega arith) l h)
  where
    bare : (d : Degree) (section : ℕ) → section < 3 → element_start d section index ≡ index * element_size d
    bare Two = each (λ section. element_start Two section index ≡ index * element_size Two) 3 (omega arith)
    bare Three = each (λ section. element_start Three section index ≡ index * element_size Three) 3 (omega arith)
    bare Four = each (λ section. element_start Four section index ≡ index * element_size Four) 3 (omega arith)
