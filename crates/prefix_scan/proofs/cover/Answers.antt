-- What the function for all leaves and eight digits says, as rule 12.
use mathlib.Core.Path.{sym, ap, ◌∙◌}
use native.Mathlib.Omega.{arith}
use Rattle.layout_rules.specs.Section.{of_degree}
use Rattle.faults.proofs.Passed.{once_passed, once_found}
use Rattle.prefix_rules.specs.Check.{cover_check}
use Rattle.leaf_rules.specs.Leaf.{code_of}
use Rattle.prefix_rules.specs.Coverage as spec
use Rattle.prefix_scan.proofs.cover.Goals as goal

pub returns-then-covered : goal.returns-then-covered
unfolding cover_check
returns-then-covered c = once_passed 12 (λ k. k) _ (ap (spec.covered (code_of (of_degree c.args.degree c.args.leaves.now) c.args.words.now) c.args.inputs 8 0 0) (sym c.leaf_count-high.ensures) ∙ sym c.covered.ensures ∙ c.if-covered.true)

pub returns-else-covered : goal.returns-else-covered
unfolding cover_check
returns-else-covered c = once_found 12 (λ k. k) _ (omega arith) (ap (spec.covered (code_of (of_degree c.args.degree c.args.leaves.now) c.args.words.now) c.args.inputs 8 0 0) (sym c.leaf_count-high.ensures) ∙ sym c.covered.ensures ∙ c.if-covered.false)
