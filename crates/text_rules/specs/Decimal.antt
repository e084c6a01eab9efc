-- Decimal text: "no plus sign, no needless zero and no minus before 0" (document 01, "Value, midpoint, program").
use Rattle.std.specs.Prelude.{true, false, List, [], ◌∷◌, ◌++◌, ℕ, zero, suc, ◌+◌, ◌/◌, ◌%◌, ltb, ℤ, pos, negsuc}

-- the byte of a digit below ten
abbrev pub digit_byte : ℕ → ℕ
digit_byte d = 48 + d

-- the digits of n, highest first; a number has no more digits than its value and one
unfoldable pub decimal_within : ℕ → ℕ → List ℕ
decimal_within zero n = digit_byte n ∷ []
decimal_within (suc fuel) n =
    elim (ltb n 10) [ true ↦ digit_byte n ∷ [] | false ↦ decimal_within fuel (n / 10) ++ (digit_byte (n % 10) ∷ []) ]

unfoldable pub decimal : ℕ → List ℕ
decimal n = decimal_within n n

-- a whole number: a minus before a negative one
unfoldable pub decimal_z : ℤ → List ℕ
decimal_z (pos n) = decimal n
decimal_z (negsuc n) = 45 ∷ decimal (suc n)
