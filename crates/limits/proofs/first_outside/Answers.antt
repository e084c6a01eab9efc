use mathlib.Core.Path.{sym, ap, ◌∙◌}
use native.Mathlib.Nat.{sub-zero}
use Rattle.layout_rules.proofs.Limit.{number_inside, number_outside, number_within}
use Rattle.lists.proofs.Scan.{scan_on}
use native.Mathlib.Omega.{arith}
use lib.ListN.{length}
use lib.IntN.{nat_abs}
use mir.Syntax.{w64}
use mir.ValLaws.{to_z-of_z}
use borrow.Author.Rules.{rules}
use Rattle.lists.proofs.Found.{found_here, found_out}
use Rattle.limits.proofs.first_outside.Goals as goal

pub loop-m-init : goal.loop-m-init
loop-m-init c = simp sub-zero

pub number_place-requires : goal.number_place-requires
number_place-requires c = omega (arith, number_inside c.args.degree c.args.size c.requires.0 (length c.args.part.now) c.loop-m.m (omega arith))

pub signed-number-requires : goal.signed-number-requires
signed-number-requires c = omega (arith, number_inside c.args.degree c.args.size c.requires.0 (length c.args.part.now) c.loop-m.m (omega arith), c.number_place.ensures)

pub returns-then-limit-unsigned_abs : goal.returns-then-limit-unsigned_abs
returns-then-limit-unsigned_abs c = found_here _ _ _ c.loop-m.invariant c.loop-m-test.true (number_outside _ _ _ _ _ _ c.number_place.ensures (c.unsigned_abs.ensures.value ∙ ap nat_abs (to_z-of_z w64 _ (search rules) ∙ c.signed-number.ensures.number)) c.if-limit-unsigned_abs.true)

pub loop-m-preserved : goal.loop-m-preserved
loop-m-preserved c = sym (scan_on _ _ c.args.count c.loop-m-test.true (number_within _ _ _ _ _ _ c.number_place.ensures (c.unsigned_abs.ensures.value ∙ ap nat_abs (to_z-of_z w64 _ (search rules) ∙ c.signed-number.ensures.number)) c.if-limit-unsigned_abs.false)) ∙ c.loop-m.invariant

pub returns : goal.returns
returns c = found_out _ _ _ c.loop-m.invariant c.loop-m-test.false
