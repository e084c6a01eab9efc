-- Elements read from bytes.
use mathlib.Core.Path.{◌≡◌, refl, ap, ◌∙◌}
use mathlib.Core.List.{List, [], ◌∷◌}
use Prim.Native.Nat.{ℕ, ◌+◌, ◌*◌, ◌<◌, ◌≤◌}
use native.Mathlib.Nat.{add-zero, zero-add}
use native.Mathlib.Omega.{arith}
use lib.ListN.{length, get_or-eq_default}
use lib.IntN.{ℤ, pos, nat_abs}
use mir.Syntax.{w64}
use mir.Val.{to_z, of_z}
use Rattle.lists.specs.Span.{span}
use Rattle.lists.proofs.Cons.{cons≡}
use Rattle.lists.proofs.Span.{length_span, get_d_span}
use Rattle.integers.proofs.Machine.{leaf, stored_is}
use Rattle.ring.specs.declared.Degree.{Degree}
use Rattle.ring.specs.declared.Degree.TheVariants.{Two, Three, Four}
use Rattle.ring.specs.Degree.{part_count}
use Rattle.ring.specs.Element.{part}
use Rattle.ring.specs.Padded.{width, padded}
use Rattle.ring.proofs.Padded.{length_padded, part_padded}
use Rattle.layout_rules.specs.Number.{signed_at}
use Rattle.layout_rules.specs.Section.{Section, of_degree}
use Rattle.digit_rules.specs.Record.{parts_at, element_at}

-- no degree is above four
pub parts_most : (d : Degree) → part_count d ≤ width
parts_most Two = omega arith
parts_most Three = omega arith
parts_most Four = omega arith

-- an element has four parts
pub element_parts : (part : Section) (at : ℕ) → length (element_at part at) ≡ width
unfolding element_at
element_parts part at = length_padded (parts_at part at)

pub parts_counted : (part : Section) (at : ℕ) → length (parts_at part at) ≡ part_count part.degree
unfolding parts_at
parts_counted part at = length_span _ 0 (part_count part.degree)

-- as many of them are numbers of the file as the degree says
pub element_two : (bytes : List ℕ) (at : ℕ) → element_at (of_degree Two bytes) at ≡ signed_at bytes at ∷ signed_at bytes (at + 2) ∷ pos 0 ∷ pos 0 ∷ []
unfolding element_at parts_at padded span
element_two bytes at = cons≡ (ap (signed_at bytes) (add-zero at)) refl

pub element_three : (bytes : List ℕ) (at : ℕ) → element_at (of_degree Three bytes) at ≡ signed_at bytes at ∷ signed_at bytes (at + 2) ∷ signed_at bytes (at + 4) ∷ pos 0 ∷ []
unfolding element_at parts_at padded span
element_three bytes at = cons≡ (ap (signed_at bytes) (add-zero at)) refl

pub element_four : (bytes : List ℕ) (at : ℕ) → element_at (of_degree Four bytes) at ≡ signed_at bytes at ∷ signed_at bytes (at + 2) ∷ signed_at bytes (at + 4) ∷ signed_at bytes (at + 6) ∷ []
unfolding element_at parts_at padded span
element_four bytes at = cons≡ (ap (signed_at bytes) (add-zero at)) refl

-- a number that was read and is passed on
pub passed_on : (z n : ℤ) → (z ≡ n) × (nat_abs z ≤ 32768) → to_z w64 (of_z w64 z) ≡ n
passed_on z n read = stored_is w64 (leaf z 32768 read.1) refl ∙ read.0

-- each part is the number at its place; above the degree it is zero
pub element_part : (section : Section) (at k : ℕ) → k < part_count section.degree → part (element_at section at) k ≡ signed_at section.bytes (at + 2 * k)
unfolding element_at parts_at
element_part section at k h =
    part_padded (parts_at section at) k (omega (arith, parts_most section.degree))
    ∙ get_d_span _ 0 (part_count section.degree) k (pos 0) h ∙ ap (λ i. signed_at section.bytes (at + 2 * i)) (zero-add k)

pub element_above : (section : Section) (at k : ℕ) → part_count section.degree ≤ k → k < width → part (element_at section at) k ≡ pos 0
unfolding element_at
element_above section at k h l =
    part_padded (parts_at section at) k l ∙ get_or-eq_default (parts_at section at) (pos 0) (omega (arith, parts_counted section at))
