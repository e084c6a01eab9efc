-- Every difference is found.
use Rattle.digit_sums.proofs.Marks.{none_marked, differences_listed}
use Rattle.digit_sums.proofs.differences_kept.Goals as goal

pub mark_all_by-requires-clause-marked : goal.mark_all_by-requires-clause-marked
mark_all_by-requires-clause-marked c = none_marked _ _ 136

pub returns : goal.returns
returns c = λ yes. differences_listed _ _ (c.mark_all_by.ensures.listed yes)
