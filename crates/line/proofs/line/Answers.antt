-- Where there is room, the line stands at the start of the buffer.
use mathlib.Core.Path.{ap, ◌∙◌}
use native.Mathlib.Omega.{arith}
use lib.ListN.{length}
use borrow.Author.Tests.{lt-ltb, le-ltb}
use Rattle.lists.specs.Overwrite.{overwrite}
use Rattle.line_rules.specs.Line.{line_into, line_count}
use Rattle.line.proofs.line.Goals as goal

pub returns-then-out-lt128-clause-count : goal.returns-then-out-lt128-clause-count
unfolding line_count
returns-then-out-lt128-clause-count c = rw (lt-ltb (length c.args.out.now) 128 c.if-out-lt128.true, line_count)

pub returns-then-out-lt128-clause-buffer : goal.returns-then-out-lt128-clause-buffer
unfolding line_into
returns-then-out-lt128-clause-buffer c = rw (lt-ltb (length c.args.out.now) 128 c.if-out-lt128.true, line_into)

pub returns-clause-count : goal.returns-clause-count
unfolding line_count
returns-clause-count c = rw (le-ltb (length c.args.out.now) 128 c.if-out-lt128.false, line_count) (omega (arith, c.put.ensures.next, ap length c.as_bytes.ensures.same, ap length c.line_of.ensures))

pub returns-clause-buffer : goal.returns-clause-buffer
unfolding line_into
returns-clause-buffer c = rw (le-ltb (length c.args.out.now) 128 c.if-out-lt128.false, line_into) (c.put.ensures.written ∙ ap (overwrite c.args.out.now 0) (c.as_bytes.ensures.same ∙ c.line_of.ensures))
