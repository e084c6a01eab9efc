-- The three kinds of digits: zero, positive ones, and their mirror images.
use Rattle.mirror_rules.specs.Half.{mirror_index}
use Rattle.mirror_rules.proofs.Mirror.{mirror_zero, mirror_up, mirror_down}
use native.Mathlib.Omega.{arith}
use mathlib.Core.Path.{sym, ap, ◌∙◌}
use Rattle.mirror.proofs.mirror.Goals as goal

pub returns-then-index-eq0 : goal.returns-then-index-eq0
returns-then-index-eq0 c = record { index = sym (ap (mirror_index c.args.positive) c.if-index-eq0.true ∙ mirror_zero c.args.positive); within = omega arith }

pub returns-then-index-positive : goal.returns-then-index-positive
returns-then-index-positive c = record { index = sym (mirror_up c.args.positive c.args.index (omega arith) (omega arith)); within = omega arith }

pub returns-else-index-positive : goal.returns-else-index-positive
returns-else-index-positive c = record { index = sym (mirror_down c.args.positive c.args.index (omega arith)); within = omega arith }
