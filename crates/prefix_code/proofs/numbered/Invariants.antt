-- The words passed lie one after the other and rise, and their strings are counted; at the end all strings are.
use Rattle.layout_rules.specs.Section.{of_degree}
use Rattle.prefix_code.proofs.Quick.{SoFar}
use Rattle.prefix_code.proofs.numbered.Given as goal

abbrev pub invariant-loop-leaf : goal.invariant-loop-leaf
invariant-loop-leaf l = SoFar (of_degree l.degree l.leaves) l.words l.inputs l.leaf l.end l.floor l.strings
