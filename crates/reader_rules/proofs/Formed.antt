-- The reader finds no fault exactly where the file is as document 01 asks.
use mathlib.Core.Path.{◌≡◌, sym, ap, subst, ◌∙◌}
use mathlib.Core.List.{List}
use mathlib.Core.Logic.{inl, inr, ⊎_elim, ◌↔◌}
use Prim.Native.Nat.{ℕ, ◌+◌, ◌-◌, ◌*◌, ◌<◌, ◌≤◌}
use native.Mathlib.Nat.{le_antisymm, zero-add, add-mul, one-mul, le-div_iff_mul-le}
use native.Mathlib.Omega.{arith}
use lib.ListN.{length, get_or}
use lib.IntN.{nat_abs}
use Rattle.lists.proofs.Span.{get_d_span}
use Rattle.faults.specs.Check.{none}
use Rattle.faults.specs.Outcome.{facts}
use Rattle.faults.proofs.Check.{then_next, judge_passed}
use Rattle.faults.proofs.Rule.{exact}
use Rattle.layout_rules.specs.Number.{signed_at}
use Rattle.layout_rules.specs.Section.{degree_of, element_size, leaf_size, section_start, section_length, section_end, degree_in, bytes_of, part_of, section_lengths}
use Rattle.ring.specs.Degree.{base_limit}
use Rattle.layout_rules.specs.Length.{section_allowed, length_check}
use Rattle.layout_rules.specs.Broken.{Allowed, Broken1, Broken2, Outside, Broken4}
use Rattle.layout_rules.proofs.Number.{part_signed}
use Rattle.layout_rules.proofs.Laid.{Laid, laid, part_length}
use Rattle.layout_rules.proofs.Broken.{follows_expected, length_means}
use Rattle.layout_rules.proofs.Limit.{some_part}
use Rattle.layout_rules.proofs.Passed.{within}
use Rattle.ring.specs.Element.{part}
use Rattle.ring.specs.Tests.{Within}
use Rattle.ring.proofs.Parts.{within_part}
use Rattle.digit_rules.specs.Record.{element_at, element_count}
use Rattle.digit_rules.specs.Digits.{RecordsWithin}
use Rattle.digit_rules.proofs.Record.{element_part}
use Rattle.digit_rules.proofs.Passed.{element_within, records_within}
use Rattle.digit_rules.proofs.Formed.{formed as digits_formed, formed_passes as digits_pass}
use Rattle.prefix_rules.proofs.Formed.{formed as leaves_formed, formed_passes as leaves_pass}
use Rattle.reader_rules.specs.Table.{base_part, alphabet_part, input_part, leaf_part, word_part}
use Rattle.reader_rules.specs.TableFacts.{table_facts}
use Rattle.reader_rules.specs.Check.{layout_check, digit_check_of, leaf_check_of, table_check, read_outcome}
use Rattle.reader_rules.specs.Formed.{WellFormed}
use Rattle.reader_rules.proofs.Kept.{no_number, layout_kept, table_kept}
use Rattle.reader_rules.proofs.Broken.{some_input, layout_found, table_exact, reader_exact}

module _ (file : List ℕ) where
  -- the length that rule 3 judges
  length_named : (section : ℕ) → section < 5 → get_or (section_lengths file) section 0 ≡ section_length file section
  length_named section l = get_d_span (section_length file) 0 5 section 0 l ∙ ap (section_length file) (zero-add section)

  -- the degree is that of the first of them
  told : degree_of (get_or (section_lengths file) 0 0) ≡ degree_in file
  told = ap degree_of (length_named 0 (omega arith))

  lengths_allowed : (length_check (section_lengths file)).number ≡ 0 → (section : ℕ) → section < 5 → Allowed (degree_in file) section (section_length file section)
  unfolding length_check
  lengths_allowed h section l =
      rw (length_named section l, told) at ((length_means _ section _ l).0 (judge_passed 3 (λ k. k) (section_allowed (section_lengths file)) 5 (omega arith) h section l))

  pub formed : (table_check file).number ≡ 0 → WellFormed file
  unfolding digit_check_of leaf_check_of
  formed h =
      let stages = table_kept file h in
      let kept = layout_kept file stages.0 in
      let is : Laid file = laid file kept.0 in
      record {
        low = is.low;
        high = is.high;
        follows = λ section l. (follows_expected file section).1 (is.placed section l).follows;
        inside = λ section l. (is.placed section l).inside;
        last = (is.placed 4 (omega arith)).last (omega arith);
        lengths = lengths_allowed kept.1;
        base_limits = records_within file kept.2 0 (omega arith);
        alphabet_limits = records_within file kept.2 1 (omega arith);
        input_limits = records_within file kept.2 2 (omega arith);
        weight_limits = λ k l. element_within (leaf_part file) (k * leaf_size (degree_in file) + 4) 1024 (λ i b. subst (λ (at : ℕ). nat_abs (signed_at (bytes_of file 3) (at + 2 * i)) ≤ 1024) (omega arith) (within file kept.2 3 k i (omega arith) l b));
        digits = digits_formed (base_part file) (alphabet_part file) (input_part file) stages.1;
        leaves = leaves_formed (leaf_part file) (word_part file) (element_count (input_part file)) (some_input file stages.0) stages.2;
      }

  -- a number of a record within its limit isn't outside it
  not_outside : (section size limit p : ℕ) → element_size (degree_in file) ≤ size
      → ((index : ℕ) → (index + 1) * size ≤ section_length file section → Within limit (element_at (part_of file section) (index * size + (size - element_size (degree_in file)))))
      → Outside file section size limit p → ⊥
  not_outside section size limit p held small o = omega (arith, o.large, rw same at (within_part limit _ (small o.index o.in_section) o.part))
    where
      at : ℕ
      at = o.index * size + (size - element_size (degree_in file))

      same : part (element_at (part_of file section) at) o.part ≡ signed_at file p
      same =
          element_part (part_of file section) at o.part o.of_element
          ∙ part_signed file (section_start file section) (section_end file section - section_start file section) (at + 2 * o.part) (omega (arith, o.in_section, o.of_element, add-mul o.index 1 size, one-mul size))
          ∙ ap (signed_at file) (sym o.place)

  module _ (is : WellFormed file) where
    last_ends : (section : ℕ) → section < 5 → 4 ≤ section → section_end file section ≡ length file
    last_ends section l h = subst (λ (s : ℕ). section_end file s ≡ length file) (le_antisymm {n = 4} {m = section} h (omega arith)) is.last

    is_laid : Laid file
    is_laid =
        record {
          low = is.low;
          high = is.high;
          placed = λ section l. record { follows = (follows_expected file section).0 (is.follows section l); inside = is.inside section l; last = last_ends section l };
        }

    -- a record within the section's length is one of its part
    counted : (section size index : ℕ) → section < 5 → (index + 1) * size ≤ section_length file section → (index + 1) * size ≤ length (bytes_of file section)
    counted section size index l h = rw (part_length file is_laid section l) h

    sizes_kept : (p : ℕ) → Broken1 file p → ⊥
    sizes_kept p b = ⊎_elim (λ l. omega arith) (λ l. omega arith) b.1

    pairs_kept : (p : ℕ) → Broken2 file p → ⊥
    pairs_kept p (l, inl b) = b (is.follows p l)
    pairs_kept p (l, inr (inl b)) = omega (arith, is.inside p l)
    pairs_kept p (l, inr (inr b)) = b.1 (last_ends p l (omega (arith, b.0)))

    elements_kept : (section limit p : ℕ) → section < 5 → RecordsWithin limit (part_of file section) → Outside file section (element_size (degree_in file)) limit p → ⊥
    elements_kept section limit p l small =
        not_outside section (element_size (degree_in file)) limit p (omega arith)
        (λ index h. subst (λ (at : ℕ). Within limit (element_at (part_of file section) at)) (omega arith) (small index (omega (arith, (le-div_iff_mul-le {x = index + 1} (some_part (degree_in file))).1 (counted section (element_size (degree_in file)) index l h)))))

    limits_kept : (p : ℕ) → Broken4 file p → ⊥
    limits_kept p (inl b) = elements_kept 0 (base_limit (degree_in file)) p (omega arith) is.base_limits b
    limits_kept p (inr (inl b)) = elements_kept 1 64 p (omega arith) is.alphabet_limits b
    limits_kept p (inr (inr (inl b))) = elements_kept 2 128 p (omega arith) is.input_limits b
    limits_kept p (inr (inr (inr b))) =
        not_outside 3 (leaf_size (degree_in file)) 1024 p (omega arith)
        (λ index h. subst (λ (at : ℕ). Within 1024 (element_at (leaf_part file) at)) (omega arith) (is.weight_limits index (omega (arith, (le-div_iff_mul-le {k = leaf_size (degree_in file)} {x = index + 1} (omega arith)).1 (counted 3 (leaf_size (degree_in file)) index (omega arith) h))))) b

    layout_passes : layout_check file ≡ none
    layout_passes = (exact _ _ (layout_found file)).passed.1 (sizes_kept, (pairs_kept, (λ p b. b.1 (rw (length_named p b.0, told) (is.lengths p b.0)), (limits_kept, tt))))

    pub passes : table_check file ≡ none
    unfolding table_check digit_check_of leaf_check_of
    passes =
        then_next (layout_check file) _ (no_number _ layout_passes)
        ∙ then_next (digit_check_of file) _ (no_number _ (digits_pass (base_part file) (alphabet_part file) (input_part file) is.digits))
        ∙ leaves_pass (leaf_part file) (word_part file) (element_count (input_part file)) (some_input file (no_number _ layout_passes)) is.leaves

-- Well formed: exactly where rules 1 to 13 find nothing, and so where the reader answers the facts
pub well_formed : (file : List ℕ) → WellFormed file ↔ ((table_check file).number ≡ 0)
well_formed file = (λ is. no_number _ (passes file is), formed file)

pub well_formed_read : (file : List ℕ) → WellFormed file ↔ (read_outcome file ≡ facts (table_facts file))
well_formed_read file = (
  λ is. (reader_exact file).passed.1 ((table_exact file).passed.0 (passes file is), tt),
  λ e. formed file (no_number _ ((table_exact file).passed.1 ((reader_exact file).passed.0 e).0)),
)
