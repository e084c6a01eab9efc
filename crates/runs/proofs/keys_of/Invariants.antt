-- The leaves passed have their words' numbers.
use Rattle.layout_rules.specs.Section.{of_degree}
use Rattle.runs.specs.Words.{Keyed}
use Rattle.runs.proofs.keys_of.Given as goal

abbrev pub invariant-loop-leaf : goal.invariant-loop-leaf
invariant-loop-leaf l = Keyed (of_degree l.degree l.leaves) l.words l.keys l.leaf
