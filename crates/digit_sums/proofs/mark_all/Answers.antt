use mathlib.Core.Path.{sym, ap, ◌∙◌}
use native.Mathlib.Omega.{arith}
use Rattle.lists.proofs.Scan.{scan_on, every_out}
use Rattle.lists.specs.Scan.{every}
use Rattle.digit_rules.proofs.Sums.{partners_most, pairs_by}
use Rattle.digit_rules.specs.Digits.{all_pairs_listed}
use Rattle.digit_sums.proofs.mark_all.Goals as goal

pub mark_pairs-requires : goal.mark_pairs-requires
mark_pairs-requires c =
    let n = c.record_count-n in
    let end = c.partner_count-end in
    record { sizes = (omega (arith, n.ensures), omega (arith, n.ensures, end.ensures, partners_most c.args.operation n.result c.loop-i.i c.loop-i-test.true), c.requires.inputs); marked = c.loop-i.invariant.1 }

pub loop-i-preserved : goal.loop-i-preserved
loop-i-preserved c =
    let listed = pairs_by c.args.operation _ _ _ _ _ _ c.partner_count-end.ensures c.record_count-n.ensures (c.mark_pairs.ensures.listed c.if-not-mark_pairs.false) in
    (sym (scan_on _ _ _ c.loop-i-test.true listed) ∙ c.loop-i.invariant.0, c.mark_pairs.ensures.marked)

pub returns : goal.returns
unfolding all_pairs_listed
returns c = record { listed = λ yes. ap (every _ 0) (sym c.record_count-n.ensures) ∙ every_out _ _ _ c.loop-i.invariant.0 c.loop-i-test.false; marked = c.loop-i.invariant.1 }
