-- Pinned by digits_exact, operation_decided and the laws of indexes (proofs/Broken.antt, proofs/Formed.antt): a reader may skip this
-- file. Rules 5 to 8, and 42, as checks of three sections, given as lists of bytes, of a file or not.
use Rattle.std.specs.Prelude.{Bool, true, false, not, List, ℕ, zero, suc, ◌+◌, ◌*◌, ◌<◌, ℤ, nat_abs, ltb, eqb, ◌≡◌, length}
use Rattle.lists.specs.Scan.{every, first_failing}
use Rattle.faults.specs.declared.Refusal.{Refusal}
use Rattle.faults.specs.Check.{none, judge, ◌then◌}
use Rattle.layout_rules.specs.Section.{Section}
use Rattle.ring.specs.Element.{zeros, part}
use Rattle.ring.specs.declared.Degree.{Degree}
use Rattle.ring.specs.declared.Degree.TheVariants.{Two, Three, Four}
use Rattle.ring.specs.Degree.{part_count, base_limit}
use Rattle.ring.specs.Padded.{width}
use Rattle.ring.specs.Product.{matrix_of}
use Rattle.ring.specs.Determinant.{determinant}
use Rattle.ring.specs.declared.Operation.{Operation}
use Rattle.ring.specs.declared.Operation.TheVariants.{Plus, Minus}
use Rattle.ring.specs.Operation.{combine}
use Rattle.ring.specs.Tests.{Within, same, expanding, perfect_square}
use Rattle.digit_rules.specs.Record.{record_at, element_count}
use Rattle.digit_rules.specs.Base.{omega_of, beta_of, sOf, tOf, uOf, vOf}
use Rattle.ring.specs.Base.{discriminant}

-- the first of the first n records that equals an element; n where none does
unfoldable pub index_in : Section → ℕ → List ℤ → ℕ
index_in part n x = first_failing (λ k. not (same (record_at part k) x)) 0 n

-- every part of every record is at most so large, as rule 4 leaves it
abbrev pub RecordsWithin : ℕ → Section → Type 0
RecordsWithin limit part = (k : ℕ) → k < element_count part → Within limit (record_at part k)

-- what rules 3 and 4 leave of the base section: its length, and numbers within their size limits
pub record BasePart (base : Section) : Type 0 where
  pub long : length base.bytes ≡ 4 * part_count base.degree
  pub small : RecordsWithin (base_limit base.degree) base

-- 5: s² + 4t is a perfect square, 0 included, at degree two
abbrev pub square_free : Degree → Section → Bool
square_free Two base = not (perfect_square (discriminant (sOf base) (tOf base)))
square_free Three base = true
square_free Four base = true

unfoldable pub discriminant_allowed : Section → Bool
discriminant_allowed base = square_free base.degree base

-- 6: base not expanding; above degree two, the determinant of multiplication by it is −1, 0 or 1
abbrev pub base_good : Degree → Section → Bool
base_good Two base = expanding (sOf base) (tOf base) (uOf base) (vOf base)
base_good Three base = ltb 1 (nat_abs (determinant 3 (matrix_of (omega_of base) (beta_of base))))
base_good Four base = ltb 1 (nat_abs (determinant 4 (matrix_of (omega_of base) (beta_of base))))

unfoldable pub base_allowed : Section → Bool
base_allowed base = base_good base.degree base

unfoldable pub base_check : Section → Refusal
base_check base = judge 5 (λ k. k) (λ _. discriminant_allowed base) 1 then judge 6 (λ k. k) (λ _. base_allowed base) 1

-- 7: record 0 isn't zero, or a record repeats an earlier one
unfoldable pub record_allowed : Section → ℕ → Bool
record_allowed part zero = same (record_at part 0) (zeros width)
record_allowed part (suc k) = eqb (index_in part (suc k) (record_at part (suc k))) (suc k)

unfoldable pub alphabet_check : Section → Refusal
alphabet_check alphabet = judge 7 (λ k. k) (record_allowed alphabet) (element_count alphabet)

-- the input index of what the operation makes of alphabet digits i and j; the record count where that is missing
unfoldable pub pair_index : Operation → Section → Section → ℕ → ℕ → ℕ
pair_index op alphabet inputs i j = index_in inputs (element_count inputs) (combine op (record_at alphabet i) (record_at alphabet j))

-- it is an input digit; and so for every j that i is taken with, up to i in a sum, whose digits may change places; and for every i
unfoldable pub pair_listed : Operation → Section → Section → ℕ → ℕ → Bool
pair_listed op alphabet inputs i j = ltb (pair_index op alphabet inputs i j) (element_count inputs)

abbrev pub partners : Operation → ℕ → ℕ → ℕ
partners Plus n i = i + 1
partners Minus n i = n

unfoldable pub pairs_listed : Operation → Section → Section → ℕ → Bool
pairs_listed op alphabet inputs i = every (pair_listed op alphabet inputs i) 0 (partners op (element_count alphabet) i)

unfoldable pub all_pairs_listed : Operation → Section → Section → Bool
all_pairs_listed op alphabet inputs = every (pairs_listed op alphabet inputs) 0 (element_count alphabet)

-- 8: the same for input digits; the place of a missing sum is the record count: judged after the records
unfoldable pub inputs_allowed : Section → Section → ℕ → Bool
inputs_allowed alphabet inputs k =
    elim (ltb k (element_count inputs)) [ true ↦ record_allowed inputs k | false ↦ all_pairs_listed Plus alphabet inputs ]

unfoldable pub input_check : Section → Section → Refusal
input_check alphabet inputs = judge 8 (λ k. k) (inputs_allowed alphabet inputs) (element_count inputs + 1)

-- rules 5 to 8
unfoldable pub digit_check : Section → Section → Section → Refusal
digit_check base alphabet inputs = base_check base then alphabet_check alphabet then input_check alphabet inputs

-- 42: of subtraction, a difference isn't an input digit; every sum is one by 8
unfoldable pub operation_check : Operation → Section → Section → Refusal
operation_check Plus alphabet inputs = none
operation_check Minus alphabet inputs = judge 42 (λ k. k) (pairs_listed Minus alphabet inputs) (element_count alphabet)
