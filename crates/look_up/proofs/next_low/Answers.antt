-- The comparison chooses one of the two numbers of the definition.
use Rattle.layout_rules.specs.Section.{of_degree}
use Rattle.look_up.proofs.Search.{next_lower, next_upper}
use Rattle.leaf_rules.specs.Leaf.{code_of}
use Rattle.leaf_rules.proofs.Leaf.{leaves_most}
use mathlib.Core.Path.{sym, ◌∙◌}
use native.Mathlib.Omega.{arith}
use Rattle.look_up.proofs.next_low.Goals as goal

pub overflow_add-result : goal.overflow_add-result
overflow_add-result c = let s = c in omega (arith, s.requires, leaves_most (of_degree s.args.degree s.args.leaves.now))

pub returns-then-above : goal.returns-then-above
returns-then-above c = next_lower (code_of (of_degree c.args.degree c.args.leaves.now) c.args.words.now) c.args.window.now _ _ (sym c.above.ensures ∙ c.if-above.true)

pub returns-else-above : goal.returns-else-above
returns-else-above c = next_upper (code_of (of_degree c.args.degree c.args.leaves.now) c.args.words.now) c.args.window.now _ _ (sym c.above.ensures ∙ c.if-above.false)
