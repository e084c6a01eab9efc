-- Hexadecimal text: its digits, its length, one byte more, and that it says its bytes.
use mathlib.Core.Path.{◌≡◌, refl, sym, ap, ◌∙◌}
use mathlib.Core.List.{List, [], ◌∷◌, ◌++◌, append_assoc}
use Prim.Native.Nat.{ℕ, ◌+◌, ◌-◌, ◌*◌, ◌/◌, ◌%◌, ◌<◌, ◌≤◌}
use native.Mathlib.Omega.{arith}
use native.Mathlib.Decide.{dec_lt}
use native.Mathlib.Numerals.{add-one}
use lib.ListN.{length, get_or, take}
use lib.Seq.{take-suc}
use borrow.Author.Tests.{lt-ltb, le-ltb}
use Rattle.lists.proofs.Cons.{cons≡}
use Rattle.text_rules.specs.Hex.{hex_byte, hex_digits, hex, hex_value, read_hex}

pub hex_low : (d : ℕ) → d < 10 → hex_byte d ≡ 48 + d
unfolding hex_byte
hex_low d h = rw (lt-ltb d 10 h, hex_byte)

pub hex_high : (d : ℕ) → 10 ≤ d → hex_byte d ≡ 87 + d
unfolding hex_byte
hex_high d h = rw (le-ltb d 10 h, hex_byte)

pub length_hex_digits : (bytes : List ℕ) → length (hex_digits bytes) ≡ 2 * length bytes
unfolding hex_digits
length_hex_digits [] = refl
length_hex_digits (byte ∷ bytes) = omega (arith, length_hex_digits bytes)

pub hex_digits_append : (a b : List ℕ) → hex_digits (a ++ b) ≡ hex_digits a ++ hex_digits b
unfolding hex_digits
hex_digits_append [] b = refl
hex_digits_append (byte ∷ a) b = rw (hex_digits_append a b)

-- a buffer with some byte
pub hex_some : (bytes : List ℕ) → 0 < length bytes → hex bytes ≡ hex_digits bytes
unfolding hex
hex_some [] h = absurd (omega arith)
hex_some (byte ∷ bytes) h = refl

pub hex_none : (bytes : List ℕ) → length bytes ≡ 0 → hex bytes ≡ 45 ∷ []
unfolding hex
hex_none [] h = refl
hex_none (byte ∷ bytes) h = absurd (omega arith)

-- room for a buffer's text
pub length_hex : (bytes : List ℕ) → length (hex bytes) ≤ 1 + 2 * length bytes
unfolding hex
length_hex [] = omega arith
length_hex (byte ∷ bytes) = omega (arith, length_hex_digits (byte ∷ bytes))

-- the two digits of the next byte behind those of the first i
pub hex_more : (bytes : List ℕ) (i : ℕ) → i < length bytes → hex_digits (take (i + 1) bytes) ≡ (hex_digits (take i bytes) ++ (hex_byte (get_or bytes i 0 / 16) ∷ [])) ++ (hex_byte (get_or bytes i 0 % 16) ∷ [])
unfolding hex_digits
hex_more bytes i h =
    let byte = get_or bytes i 0 in
    ap (λ (k : ℕ). hex_digits (take k bytes)) (add-one i)
    ∙ ap hex_digits (take-suc bytes i 0 h)
    ∙ hex_digits_append (take i bytes) (byte ∷ [])
    ∙ sym (append_assoc (hex_digits (take i bytes)) (hex_byte (byte / 16) ∷ []) (hex_byte (byte % 16) ∷ []))

-- ---- what the text says

value_low : (byte : ℕ) → byte < 97 → hex_value byte ≡ byte - 48
unfolding hex_value
value_low byte h = rw (lt-ltb byte 97 h, hex_value)

value_high : (byte : ℕ) → 97 ≤ byte → hex_value byte ≡ byte - 87
unfolding hex_value
value_high byte h = rw (le-ltb byte 97 h, hex_value)

value_of : (d : ℕ) → hex_value (hex_byte d) ≡ d
value_of d =
    elim (dec_lt d 10) [
      | yes l ↦ ap hex_value (hex_low d l) ∙ value_low (48 + d) (omega arith) ∙ omega arith
      | no m ↦ ap hex_value (hex_high d (omega arith)) ∙ value_high (87 + d) (omega arith) ∙ omega arith
    ]

-- a buffer's digits say the buffer
pub hex_reads : (bytes : List ℕ) → read_hex (hex_digits bytes) ≡ bytes
unfolding read_hex hex_digits
hex_reads [] = refl
hex_reads (byte ∷ bytes) = cons≡ (omega (arith, value_of (byte / 16), value_of (byte % 16))) (hex_reads bytes)
