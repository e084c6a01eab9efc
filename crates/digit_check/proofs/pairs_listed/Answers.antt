use Rattle.digit_rules.proofs.Sums.{partners_most, pairs_by}
use Rattle.digit_rules.proofs.Allowed.{pair_missing, pair_there}
use Rattle.lists.proofs.Scan.{scan_on, every_here, every_out}
use native.Mathlib.Nat.{sub-zero}
use native.Mathlib.Omega.{arith}
use mathlib.Core.Path.{sym, ◌∙◌}
use Rattle.digit_check.proofs.pairs_listed.Goals as goal

pub partner_count-end-requires : goal.partner_count-end-requires
partner_count-end-requires c = omega (arith, c.record_count-n.ensures, c.requires)

pub loop-j-init : goal.loop-j-init
loop-j-init c = simp sub-zero

pub pair_index-requires : goal.pair_index-requires
pair_index-requires c =
    let most = partners_most c.args.operation c.record_count-n.result c.args.i (omega (arith, c.record_count-n.ensures, c.requires)) in
    (c.requires, omega (arith, c.record_count-n.ensures, c.partner_count-end.ensures, most))

pub returns-then-pair_index-count : goal.returns-then-pair_index-count
returns-then-pair_index-count c =
    let missing = pair_missing c.args.operation _ _ _ _ _ _ c.pair_index.ensures c.record_count-count.ensures c.if-pair_index-count.true in
    sym (pairs_by c.args.operation _ _ _ _ _ _ c.partner_count-end.ensures c.record_count-n.ensures (every_here _ _ _ c.loop-j.invariant c.loop-j-test.true missing))

pub loop-j-preserved : goal.loop-j-preserved
loop-j-preserved c =
    let there = pair_there c.args.operation _ _ _ _ _ _ c.pair_index.ensures c.record_count-count.ensures c.if-pair_index-count.false in
    sym (scan_on _ _ _ c.loop-j-test.true there) ∙ c.loop-j.invariant

pub returns : goal.returns
returns c =
    sym (pairs_by c.args.operation _ _ _ _ _ _ c.partner_count-end.ensures c.record_count-n.ensures (every_out _ _ _ c.loop-j.invariant c.loop-j-test.false))
