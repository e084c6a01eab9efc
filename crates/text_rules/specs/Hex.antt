-- For the programs' output only; a reader may skip this file. Hexadecimal text: "in small hexadecimal digits, and `-` where it is empty" (the format of the outside vectors).
use Rattle.std.specs.Prelude.{true, false, List, [], ◌∷◌, ℕ, ◌+◌, ◌-◌, ◌*◌, ◌/◌, ◌%◌, ltb}

-- the byte of a digit below sixteen: 0 to 9, then a to f
unfoldable pub hex_byte : ℕ → ℕ
hex_byte d = elim (ltb d 10) [ true ↦ 48 + d | false ↦ 87 + d ]

-- two digits a byte, the higher first
unfoldable pub hex_digits : List ℕ → List ℕ
hex_digits [] = []
hex_digits (byte ∷ bytes) = hex_byte (byte / 16) ∷ (hex_byte (byte % 16) ∷ hex_digits bytes)

-- a whole buffer
unfoldable pub hex : List ℕ → List ℕ
hex [] = 45 ∷ []
hex (byte ∷ bytes) = hex_digits (byte ∷ bytes)

-- the digit that a byte says, and the bytes that digits say, two by two
unfoldable pub hex_value : ℕ → ℕ
hex_value byte = elim (ltb byte 97) [ true ↦ byte - 48 | false ↦ byte - 87 ]

unfoldable pub read_hex : List ℕ → List ℕ
read_hex [] = []
read_hex (high ∷ []) = []
read_hex (high ∷ (low ∷ text)) = (16 * hex_value high + hex_value low) ∷ read_hex text
