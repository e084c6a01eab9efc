-- The good weights of the upper leaf's part.
use Rattle.weight_sets.specs.Weights.{Good}
use Rattle.layout_rules.specs.Section.{of_degree}
use mathlib.Core.Path.{subst}
use Rattle.weight_sets.proofs.judge.Goals as goal

pub returns : goal.returns
returns c = subst (λ p. Good (of_degree c.args.degree c.args.alphabet.now) (of_degree c.args.degree c.args.leaves.now) c.args.first.now p c.good_set.result) c.upper_part-part.ensures.part c.good_set.ensures
