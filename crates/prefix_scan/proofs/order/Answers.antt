use mathlib.Core.Path.{◌≡◌, sym, ap, subst, ◌∙◌}
use Prim.Native.Nat.{ℕ, ◌-◌, ◌+◌, ◌≤◌}
use mathlib.Core.Bool.{Bool}
use Rattle.faults.specs.Check.{refusal}
use Rattle.lists.specs.Scan.{first_failing}
use native.Mathlib.Omega.{arith}
use native.Mathlib.Nat.{sub-zero}
use Rattle.layout_rules.specs.Section.{of_degree}
use Rattle.lists.proofs.Scan.{scan_on}
use Rattle.faults.proofs.Check.{judge_here, judge_out}
use Rattle.prefix_rules.specs.Check.{order_check}
use Rattle.leaf_rules.specs.Leaf.{leaf_count}
use Rattle.faults.proofs.Passed.{err_of, ok_of}
use Rattle.prefix_scan.proofs.order.Goals as goal

-- the leaf above the next one, as the count of pairs has it
next : (test : ℕ → Bool) (n leaf whole : ℕ) → 1 ≤ leaf → first_failing test (leaf - 1 + 1) (n - (leaf - 1 + 1)) ≡ whole → first_failing test (leaf + 1 - 1) (n - (leaf + 1 - 1)) ≡ whole
next test n leaf whole some e = subst (λ k. first_failing test k (n - k) ≡ whole) (omega (arith, some)) e

pub loop-leaf-init : goal.loop-leaf-init
loop-leaf-init c = simp sub-zero

pub returns-then-not-precedes : goal.returns-then-not-precedes
unfolding order_check
returns-then-not-precedes c =
    let above : c.loop-leaf.leaf ≡ c.loop-leaf.leaf - 1 + 1 = omega (arith, c.loop-leaf.auto.leaf) in
    err_of (omega arith) (ap (refusal 11) above ∙ judge_here 11 (λ k. k + 1) _ (leaf_count (of_degree c.args.degree c.args.leaves.now) - 1) (c.loop-leaf.leaf - 1) c.loop-leaf.invariant (omega (arith, c.loop-leaf.auto.leaf, c.loop-leaf-test.true, c.leaf_count-count.ensures)) (sym c.precedes.ensures ∙ c.if-not-precedes.true))

pub loop-leaf-preserved : goal.loop-leaf-preserved
loop-leaf-preserved c = next _ _ _ _ (omega (arith, c.loop-leaf.auto.leaf)) (sym (scan_on _ _ (leaf_count (of_degree c.args.degree c.args.leaves.now) - 1) (omega (arith, c.loop-leaf.auto.leaf, c.loop-leaf-test.true, c.leaf_count-count.ensures)) (sym c.precedes.ensures ∙ c.if-not-precedes.false)) ∙ c.loop-leaf.invariant)

pub returns : goal.returns
unfolding order_check
returns c = ok_of (judge_out 11 (λ k. k + 1) _ (leaf_count (of_degree c.args.degree c.args.leaves.now) - 1) (c.loop-leaf.leaf - 1) c.loop-leaf.invariant (omega (arith, c.leaf_count-count.ensures, c.loop-leaf-test.false)))
