-- The size, then the first pair that isn't allowed.
use native.Mathlib.Omega.{arith}
use Rattle.faults.proofs.Passed.{err_of, ok_of}
use Rattle.layout_rules.proofs.Pair.{too_short, too_long, pair_broken, pairs_kept}
use Rattle.lists.proofs.Scan.{scan_on, scan_here, scan_out}
use mathlib.Core.Path.{refl, sym, ◌∙◌}
use Rattle.directory.proofs.directory.Goals.{then-file-lt20-via-then-file-lt20, then-file-lt20-via-else-file-lt20+then-file-gt65535}
use Rattle.directory.proofs.directory.Goals as goal

pub returns-then-file-lt20 : goal.returns-then-file-lt20
returns-then-file-lt20 c =
    elim c.then-file-lt20.branch [
      | then-file-lt20-via-then-file-lt20 w ↦ err_of (omega arith) (too_short _ w.if-file-lt20.true)
      | then-file-lt20-via-else-file-lt20+then-file-gt65535 w ↦ err_of (omega arith) (too_long _ w.if-file-lt20.false w.if-file-gt65535.true)
    ]

pub loop-pair-init : goal.loop-pair-init
loop-pair-init c = refl

pub returns-then-not-pair_allowed : goal.returns-then-not-pair_allowed
returns-then-not-pair_allowed c = err_of (omega arith) (pair_broken _ c.if-file-lt20.false c.if-file-gt65535.false _ (sym (scan_here _ _ 5 c.loop-pair-test.true (sym c.pair_allowed.ensures ∙ c.if-not-pair_allowed.true)) ∙ c.loop-pair.invariant) c.loop-pair-test.true)

pub loop-pair-preserved : goal.loop-pair-preserved
loop-pair-preserved c = sym (scan_on _ _ 5 c.loop-pair-test.true (sym c.pair_allowed.ensures ∙ c.if-not-pair_allowed.false)) ∙ c.loop-pair.invariant

pub returns : goal.returns
returns c = ok_of (pairs_kept _ c.if-file-lt20.false c.if-file-gt65535.false _ (sym (scan_out _ _ 5 c.loop-pair-test.false) ∙ c.loop-pair.invariant) c.loop-pair-test.false)
