-- Base, alphabet and input digits of degree two, read back from bytes as they are written: records (a, b), 16 bits a number, the lower byte first.
use mathlib.Core.Path.{◌≡◌, refl, ap, ◌∙◌}
use mathlib.Core.List.{List, [], ◌∷◌}
use Prim.Native.Nat.{ℕ, ◌+◌, ◌*◌, ◌<◌}
use native.Mathlib.Omega.{arith}
use lib.ListN.{length, get_or}
use lib.IntN.{pos}
use Rattle.lists.proofs.Cons.{cons≡}
use Rattle.layout_rules.specs.Number.{unsigned_at, to_signed}
use Rattle.layout_rules.proofs.Written.{pairs_then, directory_read}
use Rattle.lists.specs.Span.{span}
use Rattle.ring.specs.declared.Degree.TheVariants.{Two}
use Rattle.ring.specs.Padded.{padded}
use Rattle.layout_rules.specs.Section.{Section, of_degree}
use Rattle.digit_rules.specs.Record.{parts_at, element_at, record_at, element_count}
use Rattle.digit_rules.specs.Base.{sOf, tOf, uOf, vOf}
use Rattle.digit_rules.proofs.Record.{element_two}

-- record k is the k-th pair, each number signed by its 16 bits
pub records_read : (pairs : List (ℕ × ℕ)) (rest : List ℕ) (k : ℕ) → k < length pairs → record_at (of_degree Two (pairs_then pairs rest)) k ≡ to_signed (get_or pairs k (0, 0)).0 ∷ to_signed (get_or pairs k (0, 0)).1 ∷ pos 0 ∷ pos 0 ∷ []
records_read pairs rest k h =
    let bytes = pairs_then pairs rest in
    let place : k * 4 ≡ 4 * k = omega arith in
    let pair = directory_read pairs rest k h in
    element_two bytes (k * 4) ∙ cons≡ (ap (λ (p : ℕ). to_signed (unsigned_at bytes p)) place ∙ ap to_signed pair.0) (cons≡ (ap (λ (p : ℕ). to_signed (unsigned_at bytes (p + 2))) place ∙ ap to_signed pair.1) refl)

-- a section has as many records as were written
length_written : (pairs : List (ℕ × ℕ)) → length (pairs_then pairs []) ≡ 4 * length pairs
length_written [] = refl
length_written (pair ∷ pairs) = omega (arith, length_written pairs)

pub records_counted : (pairs : List (ℕ × ℕ)) → element_count (of_degree Two (pairs_then pairs [])) ≡ length pairs
records_counted pairs = omega (arith, length_written pairs)

-- "Base: s, t, u, v"
module _ (s t u v : ℕ) (rest : List ℕ) where
  abbrev base : Section
  base = of_degree Two (pairs_then ((s, t) ∷ (u, v) ∷ []) rest)

  pub base_read : (sOf base ≡ to_signed s) × (tOf base ≡ to_signed t) × (uOf base ≡ to_signed u) × (vOf base ≡ to_signed v)
  unfolding element_at parts_at padded span
  base_read =
      let first = directory_read ((s, t) ∷ (u, v) ∷ []) rest 0 (omega arith) in
      let second = directory_read ((s, t) ∷ (u, v) ∷ []) rest 1 (omega arith) in
      (ap to_signed first.0, ap to_signed first.1, ap to_signed second.0, ap to_signed second.1)
