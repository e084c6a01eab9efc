-- The first leaf is apart; any other starts where the one before ends.
use native.Mathlib.Omega.{arith}
use Rattle.layout_rules.specs.Section.{of_degree}
use Rattle.prefix_rules.proofs.Place.{expected_first, expected_next}
use Rattle.prefix_scan.proofs.expected_start.Goals as goal

pub returns-then-leaf-eq0 : goal.returns-then-leaf-eq0
returns-then-leaf-eq0 c = expected_first (of_degree c.args.degree c.args.leaves.now) _ c.if-leaf-eq0.true

pub returns-else-leaf-eq0 : goal.returns-else-leaf-eq0
returns-else-leaf-eq0 c = omega (arith, expected_next (of_degree c.args.degree c.args.leaves.now) c.args.leaf c.if-leaf-eq0.false)
