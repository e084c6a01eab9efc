-- After some bytes their digits are written.
use mathlib.Core.Path.{◌≡◌}
use mathlib.Core.List.{◌++◌}
use lib.ListN.{take}
use Rattle.text_rules.specs.Hex.{hex_digits}
use Rattle.fault_text.proofs.put_hex_digits.Given as goal

abbrev pub invariant-loop-byte : goal.invariant-loop-byte
invariant-loop-byte g l = l.text ≡ l.initial.text ++ hex_digits (take l.byte-index l.bytes)
