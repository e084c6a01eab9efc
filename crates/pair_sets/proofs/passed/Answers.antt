-- As many as the look with one of the three rooms says, or none.
use Rattle.pair_sets.proofs.Pass.{none_judged}
use Rattle.pair_sets.proofs.passed.Goals as goal

pub returns-else-count-le-LEAVES : goal.returns-else-count-le-LEAVES
returns-else-count-le-LEAVES c = none_judged _ _ _ _ _
