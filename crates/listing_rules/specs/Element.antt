-- For the programs' output only; a reader may skip this file. An element as people write it, `w` standing for ω: `-1`, `2+3w`,
-- `1+2w-w^2+3w^3`.
use Rattle.std.specs.Prelude.{true, false, ◌&&◌, List, [], ◌++◌, ℕ, zero, suc, ◌-◌, eqb, ltb, ℤ, pos, nat_abs, length, replicate}
use Rattle.std.specs.Int.Signed.{lt_z}
use Rattle.ring.specs.Element.{part}
use Rattle.ring.specs.Padded.{width}
use Rattle.text_rules.specs.Bytes.{bytes_of}
use Rattle.text_rules.specs.Decimal.{decimal}

-- a power of ω: nothing for the power 0, no exponent for 1
unfoldable pub power_text : ℕ → List ℕ
power_text zero = []
power_text (suc zero) = bytes_of "w"
power_text (suc (suc k)) = bytes_of "w^" ++ decimal (suc (suc k))

-- the number before a power of ω: a 1 is left out before ω
unfoldable pub factor_text : ℕ → ℕ → List ℕ
factor_text n k = elim (eqb n 1 && ltb 0 k) [ true ↦ [] | false ↦ decimal n ]

-- the sign of a part that so many bytes stand before: no plus where none does
unfoldable pub sign_text : ℕ → ℤ → List ℕ
sign_text before a = elim (lt_z a (pos 0)) [ true ↦ bytes_of "-" | false ↦ elim (eqb before 0) [ true ↦ [] | false ↦ bytes_of "+" ] ]

-- a part with its power of ω, behind so many bytes: nothing where it is zero
unfoldable pub part_text : ℕ → ℤ → ℕ → List ℕ
part_text before a k =
    elim (eqb (nat_abs a) 0) [
      | true ↦ []
      | false ↦ sign_text before a ++ (factor_text (nat_abs a) k ++ power_text k)
    ]

-- the parts of the first so many powers, lowest first
unfoldable pub parts_text : List ℤ → ℕ → List ℕ
parts_text x zero = []
parts_text x (suc k) = parts_text x k ++ part_text (length (parts_text x k)) (part x k) k

-- all of them: `0` where every part is zero
unfoldable pub element_text : List ℤ → List ℕ
element_text x = elim (eqb (length (parts_text x width)) 0) [ true ↦ bytes_of "0" | false ↦ parts_text x width ]

-- a text at the right of a column, behind spaces
unfoldable pub right : ℕ → List ℕ → List ℕ
right width text = replicate (width - length text) 32 ++ text
