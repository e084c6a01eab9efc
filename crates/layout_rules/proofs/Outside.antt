-- Demand 1 for rule 4: its stage finds the first number outside its limits, in file order.
use mathlib.Core.Path.{◌≡◌}
use mathlib.Core.Bool.{false}
use mathlib.Core.List.{List, [], ◌∷◌}
use mathlib.Core.Logic.{inl, inr, ◌↔◌}
use Prim.Native.Nat.{ℕ, ◌+◌, ◌-◌, ◌*◌, ◌/◌, ◌%◌, ◌<◌, ◌≤◌}
use native.Mathlib.Omega.{arith}
use native.Mathlib.Nat.{add-mul, one-mul}
use lib.ListN.{length}
use lib.IntN.{nat_abs}
use borrow.Author.Tests.{lt-leb, leb-false}
use Rattle.lists.proofs.Each.{each}
use Rattle.faults.specs.Rule.{rule}
use Rattle.faults.specs.Exact.{Exact}
use Rattle.faults.proofs.Rule.{Decided, exact, judge_decided, turn_decided, reworded, InPart}
use Rattle.ring.specs.Degree.{part_count}
use Rattle.layout_rules.specs.Number.{signed_at}
use Rattle.layout_rules.specs.Section.{element_size, record_size, section_start, section_length, section_end, degree_in, bytes_of, part_of}
use Rattle.layout_rules.specs.Directory.{directory_check}
use Rattle.layout_rules.specs.Limit.{size_limit, number_place, number_count, number_allowed, limit_check_in, limit_check_of, limit_check}
use Rattle.layout_rules.specs.Broken.{Outside, Broken4, limit_rules}
use Rattle.layout_rules.proofs.Number.{part_signed}
use Rattle.layout_rules.proofs.Laid.{Laid, laid, part_length, rising}
use Rattle.layout_rules.proofs.Limit.{element_held, number_of, number_counted, record_inside, number_inside, number_rising, part_of_lem}

module _ (file : List ℕ) (is : Laid file) (section : ℕ) (known : section < 4) where
  abbrev size : ℕ
  size = record_size (degree_in file) section

  abbrev limit : ℕ
  limit = size_limit (degree_in file) section

  held : element_size (degree_in file) ≤ size
  held = element_held (degree_in file) section known

  long : length (bytes_of file section) ≡ section_length file section
  long = part_length file is section (omega arith)

  -- the m-th number in the section's part and in the file
  same_number : (m : ℕ) → m < number_count (degree_in file) size (length (bytes_of file section))
      → signed_at (bytes_of file section) (number_place (degree_in file) size m) ≡ signed_at file (section_start file section + number_place (degree_in file) size m)
  same_number m h =
      part_signed file (section_start file section) (section_end file section - section_start file section) (number_place (degree_in file) size m)
      (omega (arith, number_inside (degree_in file) size held (length (bytes_of file section)) m h, long))

  Failing : ℕ → Type 0
  Failing p =
      (m : ℕ) × (m < number_count (degree_in file) size (length (bytes_of file section))) × (p ≡ section_start file section + number_place (degree_in file) size m)
      × (number_allowed size limit (part_of file section) m ≡ false)

  to : (p : ℕ) → Outside file section size limit p → Failing p
  unfolding Failing number_allowed
  to p b = (m, counted, stands, lt-leb _ _ large)
    where
      m : ℕ
      m = b.index * part_count (degree_in file) + b.part

      counted : m < number_count (degree_in file) size (length (bytes_of file section))
      counted = number_counted (degree_in file) size held _ b.index b.part b.of_element (rw long b.in_section)

      stands : p ≡ section_start file section + number_place (degree_in file) size m
      stands = rw (number_of (degree_in file) size held b.index b.part b.of_element) b.place

      large : limit < nat_abs (signed_at (bytes_of file section) (number_place (degree_in file) size m))
      large = rw (same_number m counted, ← stands) b.large

  from : (p : ℕ) → Failing p → Outside file section size limit p
  unfolding Failing number_allowed number_place
  from p w =
      record {
        index = w.0 / part_count (degree_in file);
        part = w.0 % part_count (degree_in file);
        of_element = (part_of_lem (degree_in file) w.0).in_element;
        in_section = rw (← long) (record_inside (degree_in file) size held _ w.0 w.1);
        place = w.2;
        large = rw (w.2, ← same_number w.0 w.1) (leb-false _ _ w.3);
      }

  section_decided : Decided (rule 4 (Outside file section size limit) ∷ []) (limit_check_of file section)
  unfolding limit_check_of limit_check_in Failing
  section_decided =
      judge_decided (rule 4 (Outside file section size limit)) (λ m. section_start file section + number_place (degree_in file) size m) _ _ (omega arith)
      (λ j k h l. omega (arith, number_rising (degree_in file) size held j k h)) (λ p. (to p, from p))

-- a number lies within its section
within_section : (file : List ℕ) (section size limit p : ℕ) → element_size (degree_in file) ≤ size → Outside file section size limit p → (section_start file section ≤ p) × (p < section_end file section)
within_section file section size limit p held b = omega (arith, b.place, b.in_section, b.of_element, add-mul b.index 1 size, one-mul size)

-- the four sections by number, and as the rule names them
In : List ℕ → ℕ → ℕ → Type 0
In file section p = Outside file section (record_size (degree_in file) section) (size_limit (degree_in file) section) p

by_section : (file : List ℕ) (p : ℕ) → InPart (In file) 0 4 p ↔ Broken4 file p
unfolding In
by_section file p = (λ w. to w.0 w.2 w.3, from)
  where
    to : (section : ℕ) → section < 4 → Outside file section (record_size (degree_in file) section) (size_limit (degree_in file) section) p → Broken4 file p
    to =
        each (λ section. Outside file section (record_size (degree_in file) section) (size_limit (degree_in file) section) p → Broken4 file p) 4
        ((((tt, λ b. inl b), λ b. inr (inl b)), λ b. inr (inr (inl b))), λ b. inr (inr (inr b)))

    from : Broken4 file p → InPart (λ section p. Outside file section (record_size (degree_in file) section) (size_limit (degree_in file) section) p) 0 4 p
    from (inl b) = (0, omega arith, omega arith, b)
    from (inr (inl b)) = (1, omega arith, omega arith, b)
    from (inr (inr (inl b))) = (2, omega arith, omega arith, b)
    from (inr (inr (inr b))) = (3, omega arith, omega arith, b)

pub limit_decided : (file : List ℕ) → Laid file → Decided (limit_rules file) (limit_check file)
unfolding In limit_check
limit_decided file is =
    reworded 4 (InPart (In file) 0 4) (Broken4 file) _ (by_section file)
    (turn_decided 4 (In file) (limit_check_of file) 0 4 (λ section low l. section_decided file is section (omega arith)) in_order)
  where
    in_order : (j k p q : ℕ) → 0 ≤ j → j < k → k < 0 + 4 → In file j p → In file k q → p < q
    in_order j k p q low h l b d =
        omega (arith, within_section file j _ _ p (element_held (degree_in file) j (omega arith)) b, within_section file k _ _ q (element_held (degree_in file) k (omega arith)) d, rising file is j k h (omega arith))

-- Rule 4: the size limits, of a file that passes rules 1 and 2
pub limit_exact : (file : List ℕ) → (directory_check file).number ≡ 0 → Exact (limit_rules file) (limit_check file)
limit_exact file passed = exact _ _ (limit_decided file (laid file passed))
