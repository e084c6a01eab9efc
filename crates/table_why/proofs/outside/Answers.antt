-- Parts of 32 bits.
use mathlib.Core.Path.{◌≡◌}
use Prim.Native.Nat.{ℕ, ◌^◌, ◌≤◌}
use native.Mathlib.Omega.{arith}
use lib.IntN.{ℤ, nat_abs}
use lib.Signed.{nat_abs-le}
use mir.Val.{to_z, of_z}
use Rattle.std.proofs.Common.{lit≤, rules, refl, sym, subst, w32, w64}
use mir.ValLaws.{to_z-of_z}
use borrow.Author.Gap.{read_sfits}
use Rattle.lists.proofs.Cons.{cons≡}
use Rattle.ring.specs.Tests.{Within}
use Rattle.ring.proofs.Element.{within_le}
use Rattle.ring.proofs.Parts.{within_four}
use Rattle.table_why.proofs.outside.Goals as goal

read_size : (bits : ℕ) (z : ℤ) → z ≡ to_z w32 bits → nat_abs z ≤ 2 ^ 31
read_size bits z is = rw is (omega (arith, nat_abs-le (to_z w32 bits) (read_sfits w32 bits).sfits))

pub digit_lines-requires : goal.digit_lines-requires
digit_lines-requires g c =
    let read = cons≡ (to_z-of_z w64 c.from.result (search rules)) (cons≡ (to_z-of_z w64 c.from-2.result (search rules)) (cons≡ (to_z-of_z w64 c.from-3.result (search rules)) (cons≡ (to_z-of_z w64 c.from-4.result (search rules)) refl))) in
    let parts = within_four (2 ^ 31) _ _ _ _ (read_size _ _ c.from.ensures) (read_size _ _ c.from-2.ensures) (read_size _ _ c.from-3.ensures) (read_size _ _ c.from-4.ensures) in
    subst (Within (2 ^ 32)) (sym read) (within_le (2 ^ 31) (2 ^ 32) _ (lit≤ tt) parts)
