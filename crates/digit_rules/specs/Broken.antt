-- What it means that a rule of document 01, or 42 of document 02, is broken at a place, in the papers' words.
use Rattle.std.specs.Prelude.{◌≡◌, List, [], ◌∷◌, ◌⊎◌, ℕ, ◌<◌, ◌≤◌, ℤ, nat_abs}
use Rattle.faults.specs.Rule.{Rule, rule}
use Rattle.layout_rules.specs.Section.{Section}
use Rattle.ring.specs.Element.{zeros, plus, negative, minus}
use Rattle.ring.specs.declared.Degree.{Degree}
use Rattle.ring.specs.declared.Degree.TheVariants.{Two, Three, Four}
use Rattle.ring.specs.Padded.{width}
use Rattle.ring.specs.Product.{matrix_of}
use Rattle.ring.specs.Determinant.{determinant}
use Rattle.ring.specs.declared.Operation.{Operation}
use Rattle.ring.specs.declared.Operation.TheVariants.{Plus, Minus}
use Rattle.ring.specs.Base.{discriminant, Square, Expanding}
use Rattle.digit_rules.specs.Record.{record_at, element_count}
use Rattle.digit_rules.specs.Base.{omega_of, beta_of, sOf, tOf, uOf, vOf}

-- 5: s² + 4t is a perfect square, 0 included; "For d of 3 or 4, refusal 5 is never given"
abbrev pub BadSquare : Degree → Section → Type 0
BadSquare Two base = Square (discriminant (sOf base) (tOf base))
BadSquare Three base = ⊥
BadSquare Four base = ⊥

abbrev pub Broken5 : Section → ℕ → Type 0
Broken5 base p = (p ≡ 0) × BadSquare base.degree base

-- 6: base not expanding; for d of 3 or 4 "the determinant of multiplication by β is −1, 0 or 1"
abbrev pub BadBase : Degree → Section → Type 0
BadBase Two base = ¬ (Expanding (sOf base) (tOf base) (uOf base) (vOf base))
BadBase Three base = nat_abs (determinant 3 (matrix_of (omega_of base) (beta_of base))) ≤ 1
BadBase Four base = nat_abs (determinant 4 (matrix_of (omega_of base) (beta_of base))) ≤ 1

abbrev pub Broken6 : Section → ℕ → Type 0
Broken6 base p = (p ≡ 0) × BadBase base.degree base

-- 7: alphabet record 0 isn't zero, or a record repeats an earlier one (record)
abbrev pub Broken7 : Section → ℕ → Type 0
Broken7 part p =
    (p < element_count part)
    × (((p ≡ 0) × ¬ (record_at part p ≡ zeros width)) ⊎ ((q : ℕ) × (q < p) × (record_at part p ≡ record_at part q)))

-- x is a sum of two alphabet digits
abbrev pub Sum : Section → List ℤ → Type 0
Sum alphabet x =
    (i : ℕ) × (j : ℕ) × (i < element_count alphabet) × (j < element_count alphabet)
    × (x ≡ plus (record_at alphabet i) (record_at alphabet j))

-- x is an input digit
abbrev pub Listed : Section → List ℤ → Type 0
Listed inputs x = (k : ℕ) × (k < element_count inputs) × (record_at inputs k ≡ x)

-- 8: the same for input digits (record); else, where a sum is missing, the record count
abbrev pub Broken8 : Section → Section → ℕ → Type 0
Broken8 alphabet inputs p =
    Broken7 inputs p ⊎ ((p ≡ element_count inputs) × ((x : List ℤ) × Sum alphabet x × ¬ (Listed inputs x)))

-- in the order in which they run
abbrev pub digit_rules : Section → Section → Section → List Rule
digit_rules base alphabet inputs =
    rule 5 (Broken5 base) ∷ rule 6 (Broken6 base) ∷ rule 7 (Broken7 alphabet) ∷ rule 8 (Broken8 alphabet inputs) ∷ []

-- 42: some difference of two alphabet digits isn't an input digit (lowest pair's first index)
abbrev pub Broken42 : Section → Section → ℕ → Type 0
Broken42 alphabet inputs p =
    (p < element_count alphabet)
    × ((k : ℕ) × (k < element_count alphabet) × ¬ (Listed inputs (minus (record_at alphabet p) (record_at alphabet k))))

-- what an operation asks of alphabet and input digits besides: "in subtraction and never in addition or the edit"
abbrev pub operation_rules : Operation → Section → Section → List Rule
operation_rules Plus alphabet inputs = []
operation_rules Minus alphabet inputs = rule 42 (Broken42 alphabet inputs) ∷ []

-- "−a listed for every a listed", for the law that such an alphabet never breaks 42
abbrev pub Symmetric : Section → Type 0
Symmetric alphabet = (i : ℕ) → i < element_count alphabet → Listed alphabet (negative (record_at alphabet i))
