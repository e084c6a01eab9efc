-- The row that is named is changed at the place, and the other is not.
use Rattle.row_rules.proofs.Changed.{changed_own, changed_other}
use native.Mathlib.Omega.{arith}
use mathlib.Core.Path.{sym}
use Rattle.row_edit.proofs.store.Goals as goal

pub returns-then-change-eq0 : goal.returns-then-change-eq0
returns-then-change-eq0 c = record { first = sym (changed_own c.args.change 0 c.args.first.now c.if-change-eq0.true); second = sym (changed_other c.args.change 1 c.args.second.now (λ e. omega (arith, e, c.if-change-eq0.true))) }

pub returns-else-change-eq0 : goal.returns-else-change-eq0
returns-else-change-eq0 c = record { first = sym (changed_other c.args.change 0 c.args.first.now c.if-change-eq0.false); second = sym (changed_own c.args.change 1 c.args.second.now (omega (arith, c.if-change-eq0.false, c.requires.0))) }
