-- Each input digit passed is found at its own index.
use Rattle.layout_rules.specs.Section.{of_degree}
use Rattle.digit_sums.specs.Marks.{located}
use Rattle.digit_sums.proofs.Marks.{FoundBefore}
use Rattle.digit_sums.proofs.each_found.Given as goal

abbrev pub invariant-loop-k : goal.invariant-loop-k
invariant-loop-k l = FoundBefore (of_degree l.degree l.inputs) (located (of_degree l.degree l.inputs) l.heads l.links) l.k
