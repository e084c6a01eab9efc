-- The size, behind a minus where the number is below zero.
use mathlib.Core.Bool.{true, false}
use mathlib.Core.Path.{◌≡◌, sym, ap, ◌∙◌}
use mathlib.Core.List.{[], ◌∷◌, ◌++◌, append_assoc}
use Prim.Native.Nat.{ℕ}
use native.Mathlib.Omega.{arith}
use mir.Facts.{sfits_widen}
use mir.ValLaws.{to_z-of_z}
use mir.Val.{SFits, to_z, of_z}
use mir.Syntax.{w32, w64}
use lib.IntN.{ℤ, pos, nat_abs}
use lib.ListN.{length, length-append}
use lib.Signed.{lt_z}
use Rattle.std.proofs.Common.{rules}
use Rattle.text_rules.specs.Decimal.{decimal, decimal_z}
use Rattle.text_rules.proofs.Decimal.{signed_below, signed_above}
use Rattle.text.proofs.Text.signed.Goals.{then-z-lt0, else-z-lt0}
use Rattle.text.proofs.Text.signed.Goals as goal

-- the text by the size, as it was found of the number widened
module _ (z : ℤ) (n : ℕ) (fits : SFits w32 z) where
  handed : to_z w32 (of_z w32 z) ≡ z
  handed = to_z-of_z w32 z fits

  below : lt_z (to_z w32 (of_z w32 z)) (pos 0) ≡ true → decimal_z z ≡ (45 ∷ []) ++ decimal (nat_abs z)
  below h = signed_below z (ap (λ y. lt_z y (pos 0)) (sym handed) ∙ h)

  module _ (size : n ≡ nat_abs (to_z w64 (of_z w64 (to_z w32 (of_z w32 z))))) where
    found : n ≡ nat_abs z
    found = size ∙ ap (λ y. nat_abs (to_z w64 (of_z w64 y))) handed ∙ ap nat_abs (to_z-of_z w64 z (sfits_widen tt fits))

    minus : lt_z (to_z w32 (of_z w32 z)) (pos 0) ≡ true → decimal_z z ≡ (45 ∷ []) ++ decimal n
    minus h = below h ∙ ap (λ m. (45 ∷ []) ++ decimal m) (sym found)

    plain : lt_z (to_z w32 (of_z w32 z)) (pos 0) ≡ false → decimal_z z ≡ decimal n
    plain h = signed_above z (ap (λ y. lt_z y (pos 0)) (sym handed) ∙ h) ∙ ap decimal (sym found)

pub push-requires : goal.push-requires
push-requires g c = (search rules, omega (arith, c.requires, ap length (below c.args.z 0 c.ranges.z c.if-z-lt0.true)))

pub decimal-requires : goal.decimal-requires
decimal-requires g c = (
  search rules,
  elim c.if-z-lt0.branch [
    | then-z-lt0 w ↦ omega (arith, c.requires, ap length w.self-is, ap length w.push.ensures, length-append c.args.self.now (45 ∷ []), ap length (minus c.args.z c.size.result c.ranges.z c.size.ensures w.if-z-lt0.true))
    | else-z-lt0 w ↦ omega (arith, c.requires, ap length w.self-is, ap length (plain c.args.z c.size.result c.ranges.z c.size.ensures w.if-z-lt0.false))
  ],
)

pub returns : goal.returns
returns g c =
    elim c.if-z-lt0.branch [
      | then-z-lt0 w ↦ cc (c.decimal.ensures, w.self-is, w.push.ensures, append_assoc c.args.self.now (45 ∷ []) (decimal c.size.result), minus c.args.z c.size.result c.ranges.z c.size.ensures w.if-z-lt0.true)
      | else-z-lt0 w ↦ cc (c.decimal.ensures, w.self-is, plain c.args.z c.size.result c.ranges.z c.size.ensures w.if-z-lt0.false)
    ]
