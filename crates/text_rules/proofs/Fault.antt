-- A fault's text: room for its numbers.
use mathlib.Core.List.{List, ◌++◌}
use Prim.Native.Nat.{ℕ, ◌+◌, ◌≤◌}
use native.Mathlib.Omega.{arith}
use lib.ListN.{length, length-append}
use mir.Syntax.{w64}
use mir.Val.{Fits}
use Rattle.text_rules.specs.Decimal.{decimal}
use Rattle.text_rules.proofs.Decimal.{decimal_short}

-- a word and a 64-bit number, which has at most 20 digits
pub item_room : (word : List ℕ) (n : ℕ) → Fits w64 n → length (word ++ decimal n) ≤ length word + 20
item_room word n f = omega (arith, length-append word (decimal n), decimal_short 19 n (omega (arith, f.fits)))
