-- A space, and a number of 32 bits, which has room in eleven bytes.
use mathlib.Core.Path.{◌≡◌, refl, ap}
use mathlib.Core.List.{[], ◌∷◌, append_assoc}
use Prim.Native.Nat.{◌≤◌}
use native.Mathlib.Omega.{arith}
use lib.IntN.{ℤ}
use lib.ListN.{length, length-append}
use lib.Signed.{nat_abs-le}
use mir.Syntax.{w32}
use mir.Val.{SFits, to_z, of_z}
use mir.ValLaws.{to_z-of_z}
use Rattle.std.proofs.Common.{rules}
use Rattle.text_rules.specs.Decimal.{decimal_z}
use Rattle.listing_rules.proofs.Element.{whole_short}
use Rattle.printed.specs.Text.{part_text}
use Rattle.printed.proofs.put_part.Goals as goal

module _ (z : ℤ) (fits : SFits w32 z) where
  handed : to_z w32 (of_z w32 z) ≡ z
  handed = to_z-of_z w32 z fits

  short : length (decimal_z z) ≤ 11
  short = whole_short 9 z (omega (arith, nat_abs-le z fits.sfits))

pub signed-requires : goal.signed-requires
signed-requires g c =
    (search rules, rw (handed c.args.z c.ranges.z) (omega (arith, c.requires, ap length c.push.ensures, length-append c.args.text.now (32 ∷ []), short c.args.z c.ranges.z)))

pub returns-clause-put : goal.returns-clause-put
unfolding part_text
returns-clause-put g c = simp (c.signed.ensures, c.push.ensures, append_assoc, handed c.args.z c.ranges.z) refl

pub returns-clause-within : goal.returns-clause-within
returns-clause-within g c =
    omega (arith, ap length c.signed.ensures, ap length c.push.ensures, length-append c.args.text.now (32 ∷ []), length-append c.push.new.self (decimal_z (to_z w32 (of_z w32 c.args.z))), ap (λ z. length (decimal_z z)) (handed c.args.z c.ranges.z), short c.args.z c.ranges.z)
