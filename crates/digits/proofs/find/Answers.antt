use mathlib.Core.Path.{sym, ◌∙◌}
use Rattle.lists.proofs.Scan.{scan_on}
use Rattle.lists.proofs.Found.{found_here as found_in, found_out}
use Rattle.digit_rules.specs.Digits.{index_in}
use Rattle.digit_rules.proofs.Index.{found_here, not_here}
use Rattle.digits.proofs.find.Goals as goal

pub returns-then-equal : goal.returns-then-equal
unfolding index_in
returns-then-equal c = found_in _ c.loop-k.k c.args.n c.loop-k.invariant c.loop-k-test.true (found_here _ _ _ _ c.record_at.ensures.element (sym c.equal.ensures ∙ c.if-equal.true))

pub loop-k-preserved : goal.loop-k-preserved
loop-k-preserved c = sym (scan_on _ _ c.args.n c.loop-k-test.true (not_here _ _ _ _ c.record_at.ensures.element (sym c.equal.ensures ∙ c.if-equal.false))) ∙ c.loop-k.invariant

pub returns : goal.returns
unfolding index_in
returns c = found_out _ c.loop-k.k c.args.n c.loop-k.invariant c.loop-k-test.false
