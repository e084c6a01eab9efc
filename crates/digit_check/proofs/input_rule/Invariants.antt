-- The quick look says that nothing is broken; else a scan over the records, then the sums.
use Rattle.layout_rules.specs.Section.{of_degree}
use Rattle.digit_rules.proofs.Allowed.{Passed}
use Rattle.digit_check.proofs.input_rule.Given as goal

abbrev pub invariant-loop-input : goal.invariant-loop-input
invariant-loop-input l = Passed (of_degree l.degree l.alphabet) (of_degree l.degree l.inputs) l.count l.input
