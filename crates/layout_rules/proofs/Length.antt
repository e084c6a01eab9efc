-- Laws of rule 3 for the functions that run it.
use mathlib.Core.Path.{◌≡◌, refl, sym, ap, ◌∙◌}
use mathlib.Core.Bool.{Bool, false}
use mathlib.Core.List.{List}
use mathlib.Core.Logic.{◌⊎◌, inl, inr, ◌↔◌}
use Prim.Native.Nat.{ℕ, ◌*◌, ◌%◌, ◌<◌, ◌≤◌}
use native.Mathlib.Omega.{arith}
use lib.ListN.{get_or}
use lib.Dec.{leb}
use borrow.Author.Tests.{lt-leb, le-leb, eq-eqb, ne_eqb}
use Rattle.lists.proofs.Each.{each}
use Rattle.ring.specs.declared.Degree.{Degree}
use Rattle.ring.specs.declared.Degree.TheVariants.{Two, Three, Four}
use Rattle.ring.specs.Degree.{part_count}
use Rattle.layout_rules.specs.Section.{degree_of, record_size}
use Rattle.layout_rules.specs.Broken.{Allowed}
use Rattle.layout_rules.specs.Length.{least_records, most_records, length_allowed, section_allowed}

-- the degree by the length of section 0: the base section of 4d bytes tells d
pub degree_told : (d : Degree) → degree_of (4 * part_count d) ≡ d
unfolding degree_of
degree_told Two = refl
degree_told Three = refl
degree_told Four = refl

pub degree_other : (n : ℕ) → ¬ (n ≡ 12) → ¬ (n ≡ 16) → degree_of n ≡ Two
unfolding degree_of
degree_other n three four = rw (ne_eqb n 12 three, ne_eqb n 16 four, degree_of)

-- rule 3 at section 0: 8, 12 or 16 bytes
pub base_lengths : (n : ℕ) → Allowed (degree_of n) 0 n ↔ ((n ≡ 8) ⊎ (n ≡ 12) ⊎ (n ≡ 16))
base_lengths n = (allowed (degree_of n), told)
  where
    allowed : (d : Degree) → Allowed d 0 n → (n ≡ 8) ⊎ (n ≡ 12) ⊎ (n ≡ 16)
    allowed Two is = inl is
    allowed Three is = inr (inl is)
    allowed Four is = inr (inr is)

    of : (d : Degree) → n ≡ 4 * part_count d → Allowed (degree_of n) 0 n
    of d is = is ∙ ap (λ (e : Degree). 4 * part_count e) (sym (ap degree_of is ∙ degree_told d))

    told : (n ≡ 8) ⊎ (n ≡ 12) ⊎ (n ≡ 16) → Allowed (degree_of n) 0 n
    told (inl is) = of Two is
    told (inr (inl is)) = of Three is
    told (inr (inr is)) = of Four is

-- a section judged by the degree as it was read
pub section_judged : (lengths : List ℕ) (section : ℕ) (d : Degree) (found : Bool) → d ≡ degree_of (get_or lengths 0 0) → found ≡ length_allowed d section (get_or lengths section 0) → found ≡ section_allowed lengths section
section_judged lengths section d found told is = is ∙ (λ i. length_allowed (told i) section (get_or lengths section 0))

-- what the tables of the sections have in common
pub record Sized (d : Degree) (section : ℕ) : Type 0 where
  pub some : 0 < record_size d section
  pub small : record_size d section ≤ 12
  pub low : least_records section * record_size d section ≤ 16
  pub high : most_records section * record_size d section ≤ 48000

pub sized : (d : Degree) (section : ℕ) → section < 5 → Sized d section
sized Two = each (Sized Two) 5 (omega arith)
sized Three = each (Sized Three) 5 (omega arith)
sized Four = each (Sized Four) 5 (omega arith)

-- a length whose record size and least and most counts were read
module _ (d : Degree) (section n size : ℕ) (sizes : size ≡ record_size d section) where
  pub length_uneven : (n % size ≡ 0 → ⊥) → false ≡ length_allowed d section n
  unfolding length_allowed
  length_uneven h = rw (ne_eqb _ _ (rw sizes at h))

  pub length_low : (least : ℕ) → least ≡ least_records section → n % size ≡ 0 → n < least * size → false ≡ length_allowed d section n
  unfolding length_allowed
  length_low least is even h = rw (eq-eqb _ _ (rw sizes at even), lt-leb _ _ (rw (sizes, is) at h))

  pub length_high : (least most : ℕ) → least ≡ least_records section → most ≡ most_records section → n % size ≡ 0 → least * size ≤ n → leb n (most * size) ≡ length_allowed d section n
  unfolding length_allowed
  length_high least most is are even h = rw (eq-eqb _ _ (rw sizes at even), le-leb _ _ (rw (sizes, is) at h), sizes, are)
