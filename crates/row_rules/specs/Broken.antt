-- What it means that one of the rules 20 to 26 of document 01 is broken at a place, in the paper's words.
use Rattle.std.specs.Prelude.{◌≡◌, List, [], ◌∷◌, ◌⊎◌, ℕ, ◌+◌, ◌<◌, length, get_or}
use Rattle.faults.specs.Rule.{Rule, rule}

-- 20: a row over 256 digits, or lengths differ
abbrev pub Broken20 : List ℕ → List ℕ → ℕ → Type 0
Broken20 first second p = (p ≡ 0) × ((256 < length first) ⊎ (256 < length second) ⊎ ¬ (length first ≡ length second))

-- the same of a number of digits, and so of the one row of a value call
abbrev pub Broken20_digits : ℕ → ℕ → Type 0
Broken20_digits n p = (p ≡ 0) × (256 < n)

abbrev pub Broken20_one : List ℕ → ℕ → Type 0
Broken20_one row = Broken20_digits (length row)

-- 21, 22: a byte of the first, second row is no alphabet index (place)
abbrev pub NoIndex : ℕ → List ℕ → ℕ → Type 0
NoIndex digits row p = (p < length row) × ¬ (get_or row p 0 < digits)

-- 23: sum buffer under n + h bytes
abbrev pub Broken23 : ℕ → ℕ → ℕ → ℕ → Type 0
Broken23 n depth sum p = (p ≡ 0) × (sum < n + depth)

-- 24: row number above 1
abbrev pub Broken24 : ℕ → ℕ → Type 0
Broken24 row p = (p ≡ 0) × (1 < row)

-- 25: p not below n
abbrev pub Broken25 : ℕ → ℕ → ℕ → Type 0
Broken25 place n p = (p ≡ 0) × ¬ (place < n)

-- 26: new digit no alphabet index
abbrev pub Broken26 : ℕ → ℕ → ℕ → Type 0
Broken26 digit digits p = (p ≡ 0) × ¬ (digit < digits)

-- in the order in which they run
abbrev pub row_rules : List ℕ → List ℕ → ℕ → ℕ → ℕ → List Rule
row_rules first second sum digits depth =
    rule 20 (Broken20 first second)
    ∷ rule 21 (NoIndex digits first)
    ∷ rule 22 (NoIndex digits second)
    ∷ rule 23 (Broken23 (length first) depth sum)
    ∷ []

abbrev pub digits_rules : ℕ → List Rule
digits_rules n = rule 20 (Broken20_digits n) ∷ []

abbrev pub one_row_rules : List ℕ → ℕ → List Rule
one_row_rules row digits = rule 20 (Broken20_one row) ∷ rule 21 (NoIndex digits row) ∷ []

abbrev pub edit_rules : ℕ → ℕ → ℕ → ℕ → ℕ → List Rule
edit_rules row place digit n digits = rule 24 (Broken24 row) ∷ rule 25 (Broken25 place n) ∷ rule 26 (Broken26 digit digits) ∷ []
