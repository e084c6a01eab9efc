use mathlib.Core.Path.{sym, ◌∙◌}
use borrow.Author.Tests.{eq-eqb, ne_eqb}
use Rattle.lists.proofs.Scan.{scan_on}
use Rattle.lists.proofs.Found.{found_here, found_out}
use Rattle.look_up.proofs.first_difference.Goals as goal

pub returns-then-byte_at : goal.returns-then-byte_at
returns-then-byte_at c = found_here _ c.loop-i.i c.args.n c.loop-i.invariant c.loop-i-test.true (ne_eqb _ _ (λ q. c.if-byte_at.true (c.byte_at.ensures ∙ q ∙ sym c.byte_at-in-loop-i.ensures)))

pub loop-i-preserved : goal.loop-i-preserved
loop-i-preserved c = sym (scan_on _ _ c.args.n c.loop-i-test.true (eq-eqb _ _ (sym c.byte_at.ensures ∙ c.if-byte_at.false ∙ c.byte_at-in-loop-i.ensures))) ∙ c.loop-i.invariant

pub returns : goal.returns
returns c = found_out _ c.loop-i.i c.args.n c.loop-i.invariant c.loop-i-test.false
