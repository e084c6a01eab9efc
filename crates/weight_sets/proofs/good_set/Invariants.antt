-- Each weight in the set gives an alphabet digit with the part.
use Rattle.layout_rules.specs.Section.{of_degree}
use Rattle.weight_sets.specs.Weights.{Good}
use Rattle.weight_sets.proofs.good_set.Given as goal

abbrev pub invariant-loop-number : goal.invariant-loop-number
invariant-loop-number l = Good (of_degree l.degree l.alphabet) (of_degree l.degree l.leaves) l.first l.part l.good
