use mathlib.Core.Path.{refl}
use native.Mathlib.Omega.{arith}
use Rattle.layout_rules.specs.Section.{of_degree}
use Rattle.numeration.specs.LeafOf.{largest}
use Rattle.leaf_rules.specs.Leaf.{word_length}
use Rattle.leaf_rules.proofs.Leaf.{largest_next, depth_end}
use Rattle.leaves.proofs.depth.Goals as goal

pub loop-leaf-init : goal.loop-leaf-init
unfolding largest
loop-leaf-init c = refl

pub loop-leaf-preserved : goal.loop-leaf-preserved
loop-leaf-preserved c = omega (arith, largest_next (word_length (of_degree c.args.degree c.args.leaves.now)) c.loop-leaf.leaf)

pub returns : goal.returns
returns c = depth_end (of_degree c.args.degree c.args.leaves.now) c.loop-leaf.leaf c.loop-leaf.longest c.loop-leaf.invariant (omega arith)
