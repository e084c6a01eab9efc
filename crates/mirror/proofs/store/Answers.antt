-- Past the end nothing is stored, which is what a list does too.
use lib.Seq.{set_out}
use mathlib.Core.Path.{sym}
use Rattle.mirror.proofs.store.Goals as goal

pub returns-else-at-out : goal.returns-else-at-out
returns-else-at-out c = sym (set_out c.args.out.now c.args.at c.args.byte c.if-at-out.false)
