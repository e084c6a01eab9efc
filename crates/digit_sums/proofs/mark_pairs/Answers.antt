use mathlib.Core.Path.{sym, ◌∙◌}
use Prim.Native.Nat.{◌^◌}
use native.Mathlib.Omega.{arith}
use Rattle.lists.proofs.Scan.{scan_on, every_out}
use Rattle.lists.proofs.Found.{some_below}
use Rattle.ring.proofs.Element.{within_le}
use Rattle.digit_sums.proofs.Marks.{located_finds, found_listed, one_marked}
use Rattle.digit_sums.proofs.mark_pairs.Goals as goal

pub locate-requires : goal.locate-requires
locate-requires c = record { inputs = c.requires.sizes.2; within = within_le 65536 (2 ^ 56) _ (omega arith) c.combined-x.ensures.within }

pub bounds-marks-found : goal.bounds-marks-found
bounds-marks-found c = omega (arith, some_below _ _ _ (sym c.in-Some.ensures), c.requires.sizes.2)

pub loop-other-preserved : goal.loop-other-preserved
loop-other-preserved c =
    let found = some_below _ _ _ (sym c.in-Some.ensures) in
    (sym (scan_on _ _ _ c.loop-other-test.true (found_listed _ _ (located_finds _ _ _) _ _ _ _ _ _ c.combined-x.ensures.element found.0 (omega (arith, found)))) ∙ c.loop-other.invariant.0, one_marked _ _ (located_finds _ _ _) _ _ _ c.loop-other.invariant.1 found.0 (omega (arith, found)))

pub returns-clause-listed : goal.returns-clause-listed
returns-clause-listed c = λ yes. every_out _ _ _ c.loop-other.invariant.0 c.loop-other-test.false
