-- The texts as a reader sees them: each definition against quoted text, computed.
use mathlib.Core.Path.{◌≡◌, refl}
use mathlib.Core.List.{[], ◌∷◌}
use lib.IntN.{pos, negsuc}
use Rattle.faults.specs.declared.Fault.TheVariants.{Author, Rows, Editor}
use Rattle.text_rules.specs.Bytes.{bytes_of}
use Rattle.text_rules.specs.Decimal.{decimal_within, decimal, decimal_z}
use Rattle.text_rules.specs.Hex.{hex_byte, hex_digits, hex}
use Rattle.text_rules.specs.Fault.{refused_word, place_word, group_word, fault_text}

-- a fault of each group
pub author_line : fault_text (Author 14 2) ≡ bytes_of "refused author 14 place 2"
unfolding bytes_of fault_text refused_word group_word place_word decimal decimal_within
author_line = refl

pub rows_line : fault_text (Rows 21 7) ≡ bytes_of "refused rows 21 place 7"
unfolding bytes_of fault_text refused_word group_word place_word decimal decimal_within
rows_line = refl

pub editor_line : fault_text (Editor 26 0) ≡ bytes_of "refused editor 26 place 0"
unfolding bytes_of fault_text refused_word group_word place_word decimal decimal_within
editor_line = refl

-- decimal text: all ten digits, below zero, and zero
pub decimal_line : decimal 9876543210 ≡ bytes_of "9876543210"
unfolding bytes_of decimal decimal_within
decimal_line = refl

pub below_zero_line : decimal_z (negsuc 11) ≡ bytes_of "-12"
unfolding bytes_of decimal_z decimal decimal_within
below_zero_line = refl

pub zero_line : decimal_z (pos 0) ≡ bytes_of "0"
unfolding bytes_of decimal_z decimal decimal_within
zero_line = refl

-- hexadecimal text: all sixteen digits, and an empty buffer
pub hex_line : hex (0x01 ∷ 0x23 ∷ 0x45 ∷ 0x67 ∷ 0x89 ∷ 0xab ∷ 0xcd ∷ 0xef ∷ []) ≡ bytes_of "0123456789abcdef"
unfolding bytes_of hex hex_digits hex_byte
hex_line = refl

pub empty_line : hex [] ≡ bytes_of "-"
unfolding bytes_of hex
empty_line = refl
