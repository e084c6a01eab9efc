-- The digit that comes out of a place is small.
use mathlib.Core.List.{List}
use Prim.Native.Nat.{ℕ, ◌+◌, ◌*◌, ◌^◌, ◌≤◌}
use native.Mathlib.Omega.{arith}
use lib.IntN.{ℤ}
use Rattle.ring.specs.Element.{plus}
use Rattle.ring.specs.Tests.{Within, RowsWithin}
use Rattle.ring.specs.Padded.{width, padded_times}
use Rattle.ring.proofs.Element.{within_plus, within_minus, within_le}
use Rattle.ring.proofs.Padded.{within_padded_times}
use Rattle.numeration.specs.Conversion.{out_digit}
use Rattle.numeration.specs.Elements.{elements}

pub out_size : (d : ℕ) (base : List (List ℤ)) (input below own : List ℤ) → d ≤ width → RowsWithin (2 ^ 21) base → Within 32768 input → Within 32768 below → Within 32768 own → Within (2 ^ 42) (out_digit (elements d base) input below own)
unfolding out_digit elements
out_size d base input below own fits rows i b o =
    let product = d * (2 ^ 21 * 32768) in
    within_le (32768 + 32768 + product) (2 ^ 42) _ (omega arith) (within_minus (32768 + 32768) product (plus input below) (padded_times d base own) (within_plus 32768 32768 input below i b) (within_padded_times d (2 ^ 21) 32768 base own rows o))
