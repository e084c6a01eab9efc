-- The words at both ends of the part say whether the leaf must be in it.
use Rattle.layout_rules.specs.Section.{of_degree}
use Rattle.look_up.proofs.Search.{between_tried}
use Rattle.leaf_rules.specs.Leaf.{code_of}
use native.Mathlib.Omega.{arith}
use mathlib.Core.Path.{sym, ◌∙◌}
use Rattle.look_up.proofs.is_between.Goals as goal

pub returns-then-count-high-2 : goal.returns-then-count-high-2
returns-then-count-high-2 c =
    let a = c.args in
    λ t. between_tried (code_of (of_degree a.degree a.leaves.now) a.words.now) a.window.now a.low a.high (omega arith) (omega (arith, c.leaf_count-count.ensures)) (sym c.above.ensures ∙ c.if-above.false) (λ h. absurd (omega (arith, c.leaf_count-count.ensures)))

pub returns-else-count-high-2 : goal.returns-else-count-high-2
returns-else-count-high-2 c =
    let a = c.args in
    λ t. between_tried (code_of (of_degree a.degree a.leaves.now) a.words.now) a.window.now a.low a.high (omega arith) (omega (arith, c.leaf_count-count.ensures)) (sym c.above.ensures ∙ c.if-above.false) (λ _. sym c.above-else-count-high-2.ensures ∙ t)
