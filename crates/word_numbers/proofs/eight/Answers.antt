-- Eight bytes are a number in base 256.
use mathlib.Core.Path.{ap}
use Prim.Native.Nat.{ℕ, ◌+◌}
use native.Mathlib.Nat.{add-zero}
use native.Mathlib.Omega.{arith}
use lib.ListN.{get_or}
use Rattle.word_numbers.proofs.Shift.{eight_bytes}
use Rattle.word_numbers.proofs.eight.Goals as goal

pub returns : goal.returns
returns c =
    let bytes = c.args.bytes.now in
    let at = c.args.at in record {
      number = omega (arith, eight_bytes (λ i. get_or bytes (at + i) 0), ap (λ (k : ℕ). get_or bytes k 0) (add-zero at));
      bytes = λ i. omega (arith, c.type_inv.bytes i);
    }
