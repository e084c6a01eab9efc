-- Section 3 read where there is such a leaf, zero elsewhere.
use Prim.Native.Nat.{zero-le}
use native.Mathlib.Omega.{arith}
use Rattle.layout_rules.specs.Section.{of_degree}
use Rattle.ring.proofs.Parts.{within_four}
use Rattle.leaf_rules.proofs.Leaf.{weight_missing}
use Rattle.leaves.proofs.weight.Goals as goal

pub returns-else-leaf-leaf_count : goal.returns-else-leaf-leaf_count
returns-else-leaf-leaf_count c = record { weight = weight_missing (of_degree c.args.degree c.args.leaves.now) c.args.leaf (omega arith); within = within_four 32768 _ _ _ _ zero-le zero-le zero-le zero-le }
