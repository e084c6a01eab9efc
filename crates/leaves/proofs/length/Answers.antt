-- The length that the record gives where there is such a leaf, 0 elsewhere.
use mathlib.Core.Path.{◌∙◌}
use native.Mathlib.Omega.{arith}
use Rattle.layout_rules.specs.Section.{of_degree}
use Rattle.leaf_rules.proofs.Leaf.{length_there, length_missing}
use Rattle.leaves.proofs.length.Goals as goal

pub returns-then-leaf-leaf_count : goal.returns-then-leaf-leaf_count
returns-then-leaf-leaf_count c = c.word_length.ensures.size ∙ length_there (of_degree c.args.degree c.args.leaves.now) c.args.leaf (omega arith)

pub returns-else-leaf-leaf_count : goal.returns-else-leaf-leaf_count
returns-else-leaf-leaf_count c = length_missing (of_degree c.args.degree c.args.leaves.now) c.args.leaf (omega arith)
