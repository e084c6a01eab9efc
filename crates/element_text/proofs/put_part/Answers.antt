-- Zero is left out; else the sign, the number and the power of ω, one behind the other.
use mathlib.Core.Path.{◌≡◌, refl, sym, ap, ◌∙◌}
use mathlib.Core.List.{[], ◌++◌, append-nil, append_assoc}
use Prim.Native.Nat.{ℕ, ◌+◌}
use native.Mathlib.Omega.{arith}
use mir.ValLaws.{to_z-of_z}
use mir.Val.{SFits, to_z, of_z}
use mir.Syntax.{w64}
use lib.ListN.{length, length-append}
use lib.IntN.{ℤ, nat_abs}
use Rattle.std.proofs.Common.{rules}
use Rattle.listing_rules.specs.Element.{power_text, factor_text, sign_text, part_text}
use Rattle.listing_rules.proofs.Element.{part_none, part_some}
use Rattle.element_text.proofs.put_part.Goals as goal

-- the text by the size of the part, as it was found and handed on
module _ (written k n : ℕ) (a : ℤ) (fits : SFits w64 a) (size : n ≡ nat_abs (to_z w64 (of_z w64 a))) where
  handed : to_z w64 (of_z w64 a) ≡ a
  handed = to_z-of_z w64 a fits

  none : n ≡ 0 → part_text written a k ≡ []
  none zero = part_none written a k (sym (ap nat_abs handed) ∙ sym size ∙ zero)

  module _ (left : n ≡ 0 → ⊥) where
    some : part_text written a k ≡ sign_text written (to_z w64 (of_z w64 a)) ++ (factor_text n k ++ power_text k)
    some = rw handed (part_some written a k n (size ∙ ap nat_abs handed) left)

    lengths : length (part_text written a k) ≡ length (sign_text written (to_z w64 (of_z w64 a))) + (length (factor_text n k) + length (power_text k))
    lengths =
        ap length some ∙ simp length-append refl

pub returns-then-n-eq0 : goal.returns-then-n-eq0
returns-then-n-eq0 g c = rw (none c.args.written c.args.k c.size-n.result c.args.a c.ranges.a c.size-n.ensures c.if-n-eq0.true) (sym (append-nil c.args.text.now))

pub put_sign-requires : goal.put_sign-requires
put_sign-requires g c = (search rules, omega (arith, c.requires.room, lengths c.args.written c.args.k c.size-n.result c.args.a c.ranges.a c.size-n.ensures c.if-n-eq0.false))

pub put_factor-requires : goal.put_factor-requires
put_factor-requires g c = (search rules, simp (c.put_sign.ensures, length-append) (omega (arith, c.requires.room, lengths c.args.written c.args.k c.size-n.result c.args.a c.ranges.a c.size-n.ensures c.if-n-eq0.false)))

pub put_power-requires : goal.put_power-requires
put_power-requires g c = (search rules, simp (c.put_factor.ensures, c.put_sign.ensures, length-append) (omega (arith, c.requires.room, lengths c.args.written c.args.k c.size-n.result c.args.a c.ranges.a c.size-n.ensures c.if-n-eq0.false)))

pub returns : goal.returns
returns g c =
    simp (c.put_power.ensures, c.put_factor.ensures, c.put_sign.ensures, some c.args.written c.args.k c.size-n.result c.args.a c.ranges.a c.size-n.ensures c.if-n-eq0.false, append_assoc) refl
