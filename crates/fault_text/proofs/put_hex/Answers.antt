-- Nothing to write but `-`, or the digits.
use mathlib.Core.Bool.{Bool, true, false}
use mathlib.Core.List.{List, [], ◌∷◌}
use mathlib.Core.Path.{◌≡◌, sym, ap, ◌∙◌}
use Prim.Native.Nat.{ℕ}
use native.Mathlib.Omega.{arith}
use lib.Dec.{eqb}
use lib.ListN.{length}
use borrow.Author.Tests.{eqb-true, eqb-false}
use Rattle.std.proofs.Common.{rules}
use Rattle.text_rules.specs.Hex.{hex_digits, hex}
use Rattle.text_rules.proofs.Hex.{hex_none, hex_some}
use Rattle.fault_text.proofs.put_hex.Goals as goal

none : (bytes : List ℕ) (b : Bool) → b ≡ eqb (length bytes) 0 → b ≡ true → hex bytes ≡ 45 ∷ []
none bytes b e h = hex_none bytes (eqb-true (length bytes) 0 (sym e ∙ h))

some : (bytes : List ℕ) (b : Bool) → b ≡ eqb (length bytes) 0 → b ≡ false → hex bytes ≡ hex_digits bytes
some bytes b e h =
    let apart = eqb-false (length bytes) 0 (sym e ∙ h) in
    hex_some bytes (omega (arith, apart))

pub push-requires : goal.push-requires
push-requires g c = (search rules, omega (arith, c.requires, ap length (none c.args.bytes.now _ c.is_empty.ensures c.if-is_empty.true)))

pub put_hex_digits-requires : goal.put_hex_digits-requires
put_hex_digits-requires g c = (search rules, omega (arith, c.requires, ap length (some c.args.bytes.now _ c.is_empty.ensures c.if-is_empty.false)))

pub returns-then-is_empty : goal.returns-then-is_empty
returns-then-is_empty g c = rw (none c.args.bytes.now _ c.is_empty.ensures c.if-is_empty.true) c.push.ensures

pub returns-else-is_empty : goal.returns-else-is_empty
returns-else-is_empty g c = rw (some c.args.bytes.now _ c.is_empty.ensures c.if-is_empty.false) c.put_hex_digits.ensures
