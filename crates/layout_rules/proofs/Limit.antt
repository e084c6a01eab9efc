-- Laws of rule 4: where its numbers stand, and one law for each answer of the functions that run it.
use mathlib.Core.Path.{◌≡◌, refl, sym, ap}
use mathlib.Core.Bool.{true, false}
use mathlib.Core.List.{List, [], ◌∷◌}
use Prim.Native.Nat.{ℕ, zero, suc, ◌+◌, ◌-◌, ◌*◌, ◌/◌, ◌%◌, ◌<◌, ◌≤◌}
use native.Mathlib.Decide.{dec_lt}
use native.Mathlib.Omega.{arith}
use native.Mathlib.Nat.{add-mul, one-mul, mul-le-mul_right, le-div_iff_mul-le}
use lib.ListN.{length, get_or, take, drop}
use lib.IntN.{nat_abs}
use lib.Dec.{leb}
use borrow.Author.Tests.{lt-leb, le-leb, eqb-true}
use Rattle.lists.specs.Scan.{first_failing, every}
use Rattle.lists.proofs.Scan.{every_complete}
use Rattle.lists.proofs.Each.{each}
use Rattle.faults.specs.Check.{refusal, none}
use Rattle.faults.proofs.Check.{judge_broken, judge_kept}
use Rattle.ring.specs.declared.Degree.{Degree}
use Rattle.ring.specs.declared.Degree.TheVariants.{Two, Three, Four}
use Rattle.ring.specs.Degree.{part_count, base_limit}
use Rattle.layout_rules.specs.Number.{to_signed, signed_at}
use Rattle.layout_rules.specs.Section.{element_size, record_size, Section, of_degree, section_start, section_end, degree_in}
use Rattle.layout_rules.specs.Limit.{size_limit, number_place, number_count, number_allowed, limit_check_in, limit_check_of}
use Rattle.layout_rules.proofs.Number.{size_low, size_high}

-- the sections with a limit have records that hold an element
pub element_held : (d : Degree) (section : ℕ) → section < 4 → element_size d ≤ record_size d section
element_held Two = each (λ section. element_size Two ≤ record_size Two section) 4 (omega arith)
element_held Three = each (λ section. element_size Three ≤ record_size Three section) 4 (omega arith)
element_held Four = each (λ section. element_size Four ≤ record_size Four section) 4 (omega arith)

-- part k of element r, counted through; and which part of which element the m-th is
pub record Numbered (d : Degree) (r k m : ℕ) : Type 0 where
  pub counted : m ≡ r * part_count d + k
  pub in_element : k < part_count d

pub part_of_lem : (d : Degree) (m : ℕ) → Numbered d (m / part_count d) (m % part_count d) m
part_of_lem Two m = record { counted = omega arith; in_element = omega arith }
part_of_lem Three m = record { counted = omega arith; in_element = omega arith }
part_of_lem Four m = record { counted = omega arith; in_element = omega arith }

pub one_part : (d : Degree) (r k m : ℕ) → Numbered d r k m → (m / part_count d ≡ r) × (m % part_count d ≡ k)
one_part Two r k m is = (omega (arith, is.counted, is.in_element), omega (arith, is.counted, is.in_element))
one_part Three r k m is = (omega (arith, is.counted, is.in_element), omega (arith, is.counted, is.in_element))
one_part Four r k m is = (omega (arith, is.counted, is.in_element), omega (arith, is.counted, is.in_element))

-- fewer elements are fewer numbers
pub numbers_below : (d : Degree) (r n k : ℕ) → r < n → k < part_count d → r * part_count d + k < n * part_count d
numbers_below Two r n k h l = omega arith
numbers_below Three r n k h l = omega arith
numbers_below Four r n k h l = omega arith

pub elements_below : (d : Degree) (n m : ℕ) → m < n * part_count d → m / part_count d < n
elements_below Two n m h = omega arith
elements_below Three n m h = omega arith
elements_below Four n m h = omega arith

pub elements_rising : (d : Degree) (j k : ℕ) → j < k → j / part_count d ≤ k / part_count d
elements_rising Two j k h = omega arith
elements_rising Three j k h = omega arith
elements_rising Four j k h = omega arith

-- an element has a part
pub some_part : (d : Degree) → 0 < element_size d
some_part Two = omega arith
some_part Three = omega arith
some_part Four = omega arith

module _ (d : Degree) (size : ℕ) (held : element_size d ≤ size) where
  some : 0 < size
  some = omega (arith, some_part d)

  -- one record further
  next_record : (r s : ℕ) → r < s → r * size + size ≤ s * size
  next_record r s h = omega (arith, mul-le-mul_right {m = r + 1} {n = s} size (omega arith), add-mul r 1 size, one-mul size)

  -- part k of record r is a number of the section, and each number is such a part
  pub number_of : (r k : ℕ) → k < part_count d → number_place d size (r * part_count d + k) ≡ r * size + (size - element_size d) + 2 * k
  unfolding number_place
  number_of r k h =
      let is = one_part d r k (r * part_count d + k) (record { counted = refl; in_element = h }) in
      rw (is.0, is.1)

  pub number_counted : (n r k : ℕ) → k < part_count d → (r + 1) * size ≤ n → r * part_count d + k < number_count d size n
  unfolding number_count
  number_counted n r k h l = numbers_below d r (n / size) k (omega (arith, (le-div_iff_mul-le {k = size} {x = r + 1} {y = n} some).1 l)) h

  pub record_inside : (n m : ℕ) → m < number_count d size n → (m / part_count d + 1) * size ≤ n
  unfolding number_count
  record_inside n m h = (le-div_iff_mul-le {k = size} {x = m / part_count d + 1} {y = n} some).0 (omega (arith, elements_below d (n / size) m h))

  pub number_inside : (n m : ℕ) → m < number_count d size n → number_place d size m + 2 ≤ n
  unfolding number_place
  number_inside n m h = omega (arith, record_inside n m h, (part_of_lem d m).in_element, add-mul (m / part_count d) 1 size, one-mul size)

  -- a record ends in the part
  pub record_ends : (n r : ℕ) → r < n / size → r * size + size ≤ n
  record_ends n r h = omega (arith, (le-div_iff_mul-le {k = size} {x = r + 1} {y = n} some).0 (omega arith), add-mul r 1 size, one-mul size)

  pub number_rising : (j k : ℕ) → j < k → number_place d size j < number_place d size k
  unfolding number_place
  number_rising j k h =
      elim (dec_lt (j / part_count d) (k / part_count d)) [
        | yes l ↦ omega (arith, next_record (j / part_count d) (k / part_count d) l, (part_of_lem d j).in_element)
        | no l ↦ same (omega (arith, elements_rising d j k h))
      ]
    where
      same : j / part_count d ≡ k / part_count d → j / part_count d * size + (size - element_size d) + 2 * (j % part_count d) < k / part_count d * size + (size - element_size d) + 2 * (k % part_count d)
      same e = rw e (omega (arith, (part_of_lem d j).counted, (part_of_lem d k).counted, ap (λ (n : ℕ). n * part_count d) e))

-- the place of a number, by the count of parts as it was read
pub place_read : (d : Degree) (size m parts : ℕ) → parts ≡ part_count d → m / parts * size + (size - 2 * parts) + 2 * (m % parts) ≡ number_place d size m
unfolding number_place
place_read d size m parts reads = rw reads

-- the same for a section's records, with their size as it was read
pub size_held : (d : Degree) (section size : ℕ) → section < 4 → size ≡ record_size d section → element_size d ≤ size
size_held d section size h sizes = omega (arith, element_held d section h)

-- the limit of section 0, and those of the others, which the degree doesn't alter
pub limit_first : (d : Degree) (section : ℕ) → section ≡ 0 → base_limit d ≡ size_limit d section
limit_first d section h = rw h

pub limit_later : (d : Degree) (section : ℕ) → (section ≡ 0 → ⊥) → get_or (64 ∷ 64 ∷ 128 ∷ 1024 ∷ []) section 0 ≡ size_limit d section
limit_later d zero h = absurd (h refl)
limit_later d (suc section) h = refl

-- no limit is past the largest
pub limit_small : (d : Degree) (section limit : ℕ) → section < 4 → limit ≡ size_limit d section → limit ≤ 1024
limit_small d section limit h limits = omega (arith, most d section h)
  where
    most : (d : Degree) (section : ℕ) → section < 4 → size_limit d section ≤ 1024
    most Two = each (λ section. size_limit Two section ≤ 1024) 4 (omega arith)
    most Three = each (λ section. size_limit Three section ≤ 1024) 4 (omega arith)
    most Four = each (λ section. size_limit Four section ≤ 1024) 4 (omega arith)

pub section_inside : (d : Degree) (section size n m : ℕ) → section < 4 → size ≡ record_size d section → m < number_count d size n → number_place d size m + 2 ≤ n
section_inside d section size n m h sizes l = number_inside d size (size_held d section size h sizes) n m l

-- a number whose place and size were read
module _ (size limit : ℕ) (part : Section) (m at magnitude : ℕ) (stands : at ≡ number_place part.degree size m) (reads : magnitude ≡ nat_abs (signed_at part.bytes at)) where
  pub number_outside : limit < magnitude → number_allowed size limit part m ≡ false
  unfolding number_allowed
  number_outside h = lt-leb _ _ (rw (reads, stands) at h)

  pub number_within : magnitude ≤ limit → number_allowed size limit part m ≡ true
  unfolding number_allowed
  number_within h = le-leb _ _ (rw (reads, stands) at h)

-- a number within its limit by its bits, raised by the limit and by what twice the limit is short of 65,535
pub raised_within : (u limit : ℕ) → u < 65536 → limit ≤ 1024 → (u + limit) % 65536 + (65535 - 2 * limit) < 65536 → nat_abs (to_signed u) ≤ limit
raised_within u limit h small low =
    elim (dec_lt u 32768) [
      | yes l ↦ omega (arith, size_low u l)
      | no l ↦ omega (arith, size_high u (omega arith) h)
    ]

-- the numbers of the first records
abbrev pub AllowedBefore : ℕ → ℕ → Section → ℕ → Type 0
AllowedBefore size limit part r = (m : ℕ) → m < r * part_count part.degree → number_allowed size limit part m ≡ true

pub allowed_next : (size limit : ℕ) (part : Section) (r at : ℕ) → element_size part.degree ≤ size → at ≡ r * size + (size - element_size part.degree) → AllowedBefore size limit part r
    → ((k : ℕ) → k < part_count part.degree → nat_abs (signed_at part.bytes (at + 2 * k)) ≤ limit) → AllowedBefore size limit part (r + 1)
unfolding number_allowed
allowed_next size limit part r at held stands before within m h =
    elim (dec_lt m (r * part_count part.degree)) [
      | yes l ↦ before m l
      | no l ↦ number (m - r * part_count part.degree) (omega (arith, add-mul r 1 (part_count part.degree), one-mul (part_count part.degree))) (omega arith)
    ]
  where
    number : (k : ℕ) → k < part_count part.degree → m ≡ r * part_count part.degree + k → leb (nat_abs (signed_at part.bytes (number_place part.degree size m))) limit ≡ true
    number k l is = le-leb (nat_abs (signed_at part.bytes (number_place part.degree size m))) limit (rw (is, number_of part.degree size held r k l, ← stands) (within k l))

pub allowed_all : (size limit : ℕ) (part : Section) (r count : ℕ) → count ≡ length part.bytes / size → count ≤ r → AllowedBefore size limit part r → every (number_allowed size limit part) 0 (number_count part.degree size (length part.bytes)) ≡ true
unfolding number_count
allowed_all size limit part r count counts h before = every_complete _ 0 _ (λ m low l. before m (omega (arith, rw (← counts) at l, mul-le-mul_right {m = count} {n = r} (part_count part.degree) h)))

-- a section whose first number outside its limit was found at m
module _ (part : Section) (start section size limit m : ℕ) (sizes : size ≡ record_size part.degree section) (limits : limit ≡ size_limit part.degree section)
    (first : m ≡ first_failing (number_allowed size limit part) 0 (number_count part.degree size (length part.bytes))) where
  found : m ≡ first_failing (number_allowed (record_size part.degree section) (size_limit part.degree section) part) 0 (number_count part.degree (record_size part.degree section) (length part.bytes))
  found = rw (sizes, limits) at first

  pub limit_broken : (at : ℕ) → at ≡ number_place part.degree size m → m < number_count part.degree size (length part.bytes) → refusal 4 (start + at) ≡ limit_check_in part start section
  unfolding limit_check_in
  limit_broken at stands h = rw (stands, sizes) (sym (judge_broken 4 (λ m. start + number_place part.degree (record_size part.degree section) m) _ _ m found (rw sizes at h)))

  pub limit_kept : number_count part.degree size (length part.bytes) ≤ m → none ≡ limit_check_in part start section
  unfolding limit_check_in
  limit_kept h = sym (judge_kept 4 (λ m. start + number_place part.degree (record_size part.degree section) m) _ _ m found (rw sizes at h))

-- a section none of whose numbers is outside its limit
pub limit_none : (part : Section) (start section size limit : ℕ) → size ≡ record_size part.degree section → limit ≡ size_limit part.degree section → every (number_allowed size limit part) 0 (number_count part.degree size (length part.bytes)) ≡ true → none ≡ limit_check_in part start section
unfolding every
limit_none part start section size limit sizes limits all =
    limit_kept part start section size limit _ sizes limits refl (omega (arith, eqb-true (first_failing (number_allowed size limit part) 0 (number_count part.degree size (length part.bytes))) (0 + number_count part.degree size (length part.bytes)) all))

-- a section handed on by its bounds as they were read
pub handed_on : (file : List ℕ) (d : Degree) (section start end : ℕ) → d ≡ degree_in file → start ≡ section_start file section → end ≡ section_end file section → limit_check_in (of_degree d (take (end - start) (drop start file))) start section ≡ limit_check_of file section
unfolding limit_check_of
handed_on file d section start end told starts ends = rw (told, starts, ends)
