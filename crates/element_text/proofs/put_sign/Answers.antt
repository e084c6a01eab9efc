-- A minus below zero, and else a plus where something stands before.
use mathlib.Core.Bool.{Bool, true, false}
use mathlib.Core.Path.{◌≡◌, sym, ap, ◌∙◌}
use mathlib.Core.List.{append-nil}
use native.Mathlib.Omega.{arith}
use lib.IntN.{ℤ, pos}
use lib.ListN.{length}
use lib.Signed.{lt_z}
use mir.Syntax.{w64}
use mir.Val.{SFits, to_z, of_z}
use mir.ValLaws.{to_z-of_z}
use Rattle.std.proofs.Common.{rules}
use Rattle.text_rules.specs.Bytes.{bytes_of}
use Rattle.listing_rules.proofs.Element.{sign_below, sign_none, sign_above}
use Rattle.element_text.proofs.put_sign.Goals as goal

-- the test goes by the number's bits
sign_test : (a : ℤ) (b : Bool) → SFits w64 a → lt_z (to_z w64 (of_z w64 a)) (pos 0) ≡ b → lt_z a (pos 0) ≡ b
sign_test a b f h = ap (λ z. lt_z z (pos 0)) (sym (to_z-of_z w64 a f)) ∙ h

pub put-requires : goal.put-requires
unfolding bytes_of
put-requires g c = (search rules, omega (arith, c.requires, ap length (sign_below c.args.written c.args.a (sign_test c.args.a true c.ranges.a c.if-a-lt0.true))))

pub put-requires-then-written-gt0 : goal.put-requires-then-written-gt0
unfolding bytes_of
put-requires-then-written-gt0 g c =
    (search rules, omega (arith, c.requires, ap length (sign_above c.args.written c.args.a (sign_test c.args.a false c.ranges.a c.if-a-lt0.false) (λ z. omega (arith, c.if-written-gt0.true)))))

pub returns-then-a-lt0 : goal.returns-then-a-lt0
unfolding bytes_of
returns-then-a-lt0 g c = rw (sign_below c.args.written c.args.a (sign_test c.args.a true c.ranges.a c.if-a-lt0.true)) c.put.ensures

pub returns-then-written-gt0 : goal.returns-then-written-gt0
unfolding bytes_of
returns-then-written-gt0 g c = rw (sign_above c.args.written c.args.a (sign_test c.args.a false c.ranges.a c.if-a-lt0.false) (λ z. omega (arith, c.if-written-gt0.true))) c.put-then-written-gt0.ensures

pub returns-else-written-gt0 : goal.returns-else-written-gt0
returns-else-written-gt0 g c = rw (sign_none c.args.written c.args.a (sign_test c.args.a false c.ranges.a c.if-a-lt0.false) (omega (arith, c.if-written-gt0.false))) (sym (append-nil c.args.text.now))
