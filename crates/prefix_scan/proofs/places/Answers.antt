use mathlib.Core.Path.{sym, ◌∙◌}
use native.Mathlib.Omega.{arith}
use native.Mathlib.Nat.{sub-zero}
use Rattle.layout_rules.specs.Section.{of_degree}
use Rattle.lists.proofs.Scan.{scan_on}
use Rattle.faults.proofs.Check.{judge_here, judge_out}
use Rattle.prefix_rules.specs.Check.{place_check}
use Rattle.leaf_rules.specs.Leaf.{leaf_count}
use Rattle.faults.proofs.Passed.{err_of, ok_of}
use Rattle.prefix_scan.proofs.places.Goals as goal

pub loop-leaf-init : goal.loop-leaf-init
loop-leaf-init c = simp sub-zero

pub returns-then-not-leaf_allowed : goal.returns-then-not-leaf_allowed
unfolding place_check
returns-then-not-leaf_allowed c = err_of (omega arith) (judge_here 9 (λ k. k) _ (leaf_count (of_degree c.args.degree c.args.leaves.now)) c.loop-leaf.leaf c.loop-leaf.invariant (omega arith) (sym c.leaf_allowed.ensures ∙ c.if-not-leaf_allowed.true))

pub loop-leaf-preserved : goal.loop-leaf-preserved
loop-leaf-preserved c = sym (scan_on _ _ (leaf_count (of_degree c.args.degree c.args.leaves.now)) (omega arith) (sym c.leaf_allowed.ensures ∙ c.if-not-leaf_allowed.false)) ∙ c.loop-leaf.invariant

pub returns : goal.returns
unfolding place_check
returns c = ok_of (judge_out 9 (λ k. k) _ (leaf_count (of_degree c.args.degree c.args.leaves.now)) c.loop-leaf.leaf c.loop-leaf.invariant (omega arith))
