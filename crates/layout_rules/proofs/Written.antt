-- Numbers and the directory, read back from bytes as document 01 has them written: 16 bits, the lower byte first.
use mathlib.Core.Path.{◌≡◌, refl, ap, ◌∙◌}
use mathlib.Core.List.{List, [], ◌∷◌, ◌++◌}
use mathlib.Core.Logic.{◌⊎◌, inl, inr}
use Prim.Native.Nat.{ℕ, zero, suc, ◌+◌, ◌*◌, ◌/◌, ◌%◌, ◌<◌}
use native.Mathlib.Decide.{dec_lt}
use native.Mathlib.Omega.{arith}
use lib.ListN.{length, get_or}
use lib.Seq.{get_or-append-add}
use lib.IntN.{pos, ◌+ℤ◌, -ℤ-+ℤ_cancel}
use lib.Signed.{mag}
use borrow.Author.Tests.{lt-ltb}
use Rattle.lists.specs.Span.{span}
use Rattle.layout_rules.specs.Number.{unsigned_at, to_signed}
use Rattle.ring.specs.declared.Degree.{Degree}
use Rattle.ring.specs.declared.Degree.TheVariants.{Two, Three, Four}
use Rattle.layout_rules.specs.Section.{leaf_size, record_size, section_start, section_length}
use Rattle.layout_rules.specs.Limit.{element_start}
use Rattle.layout_rules.proofs.Number.{signed_low, signed_high}

-- two bytes, wherever they stand: the lower first
pub two_bytes : (before after : List ℕ) (low high : ℕ) → unsigned_at (before ++ (low ∷ (high ∷ after))) (length before) ≡ low + 256 * high
unfolding unsigned_at
two_bytes before after low high =
    let bytes = before ++ (low ∷ (high ∷ after)) in
    let here : length before ≡ length before + 0 = omega arith in
    let first : get_or bytes (length before) 0 ≡ low = ap (λ (k : ℕ). get_or bytes k 0) here ∙ get_or-append-add before (low ∷ (high ∷ after)) 0 0 in
    omega (arith, get_or-append-add before (low ∷ (high ∷ after)) 1 0)

-- a number as two bytes, and pairs (offset, length) one behind the other with anything behind them
abbrev pub written : ℕ → List ℕ
written n = n % 256 ∷ n / 256 ∷ []

abbrev pub pairs_then : List (ℕ × ℕ) → List ℕ → List ℕ
pairs_then [] rest = rest
pairs_then (pair ∷ pairs) rest = written pair.0 ++ (written pair.1 ++ pairs_then pairs rest)

-- one pair on
pair_on : (a b c d : ℕ) (bytes : List ℕ) (at k : ℕ) → at ≡ suc (suc (suc (suc k))) → unsigned_at (a ∷ b ∷ c ∷ d ∷ bytes) at ≡ unsigned_at bytes k
unfolding unsigned_at
pair_on a b c d bytes at k e = let f : at + 1 ≡ suc (suc (suc (suc (k + 1)))) = omega arith in rw (f, e)

-- the start and the length of a section are those of its pair in the directory
pub directory_read : (pairs : List (ℕ × ℕ)) (rest : List ℕ) (section : ℕ) → section < length pairs
    → (section_start (pairs_then pairs rest) section ≡ (get_or pairs section (0, 0)).0) × (section_length (pairs_then pairs rest) section ≡ (get_or pairs section (0, 0)).1)
unfolding unsigned_at
directory_read [] rest section h = absurd (omega arith)
directory_read (pair ∷ pairs) rest zero h = (omega arith, omega arith)
directory_read (pair ∷ pairs) rest (suc section) h =
    let later = directory_read pairs rest section (omega arith) in
    (pair_on _ _ _ _ (pairs_then pairs rest) (4 * suc section) (4 * section) (omega arith) ∙ later.0, pair_on _ _ _ _ (pairs_then pairs rest) (4 * suc section + 2) (4 * section + 2) (omega arith) ∙ later.1)

-- a signed number is from −32,768 to 32,767, and its bits as they stand or less 65,536
pub signed_range : (u : ℕ) → u < 65536 → mag (to_signed u) < 32768
signed_range u h =
    elim (dec_lt u 32768) [
      | yes l ↦ rw (signed_low u l) l
      | no l ↦ rw (signed_high u (omega arith), lt-ltb u 65536 h) (omega arith)
    ]

pub signed_bits : (u : ℕ) → (to_signed u ≡ pos u) ⊎ (to_signed u +ℤ pos 65536 ≡ pos u)
signed_bits u =
    elim (dec_lt u 32768) [
      | yes l ↦ inl (signed_low u l)
      | no l ↦ inr (rw (signed_high u (omega arith)) (-ℤ-+ℤ_cancel (pos u) (pos 65536)))
    ]

-- "records (a, b) of 4 bytes", leaves "of 8 bytes"; the base's 8 bytes are two elements
pub record_sizes : span (record_size Two) 0 5 ≡ 4 ∷ 4 ∷ 4 ∷ 8 ∷ 1 ∷ []
unfolding span
record_sizes = refl

-- "Records become 2d bytes, leaves 4 + 2d" (document 02, job 8)
pub record_sizes_three : span (record_size Three) 0 5 ≡ 6 ∷ 6 ∷ 6 ∷ 10 ∷ 1 ∷ []
unfolding span
record_sizes_three = refl

pub record_sizes_four : span (record_size Four) 0 5 ≡ 8 ∷ 8 ∷ 8 ∷ 12 ∷ 1 ∷ []
unfolding span
record_sizes_four = refl

-- a leaf's weight stands behind the offset and the length of its word
pub weight_start : (d : Degree) (index : ℕ) → element_start d 3 index ≡ leaf_size d * index + 4
weight_start Two index = omega arith
weight_start Three index = omega arith
weight_start Four index = omega arith
