-- Every part is at most 4 · 2 ^ 53 in size.
use mathlib.Core.Path.{◌≡◌, sym, subst}
use mathlib.Core.List.{List}
use Prim.Native.Nat.{ℕ, ◌*◌, ◌^◌, ◌≤◌}
use native.Mathlib.Omega.{arith}
use lib.IntN.{ℤ}
use Rattle.ring.specs.Tests.{Within, RowsWithin}
use Rattle.ring.specs.Padded.{padded_times}
use Rattle.ring.proofs.Element.{within_le}
use Rattle.ring.proofs.Padded.{within_padded_times}
use Rattle.elements.proofs.times_base.Goals as goal

within : (n : ℕ) (base : List (List ℤ)) (x r : List ℤ) → n ≤ 4 → RowsWithin (2 ^ 21) base × Within (2 ^ 32) x → r ≡ padded_times n base x → Within (2 ^ 55) r
within n base x r few sizes is =
    subst (Within (2 ^ 55)) (sym is) (within_le (n * (2 ^ 21 * 2 ^ 32)) (2 ^ 55) _ (omega arith) (within_padded_times n (2 ^ 21) (2 ^ 32) base x sizes.0 sizes.1))

pub returns-in-Two-clause-within : goal.returns-in-Two-clause-within
returns-in-Two-clause-within c = within 2 c.args.base c.args.x _ (omega arith) c.requires c.times.ensures

pub returns-in-Three-clause-within : goal.returns-in-Three-clause-within
returns-in-Three-clause-within c = within 3 c.args.base c.args.x _ (omega arith) c.requires c.times-in-Three.ensures

pub returns-in-Four-clause-within : goal.returns-in-Four-clause-within
returns-in-Four-clause-within c = within 4 c.args.base c.args.x _ (omega arith) c.requires c.times-in-Four.ensures
