-- Every sum is found, and each input digit at its own index.
use mathlib.Core.Path.{sym, ◌∙◌}
use Rattle.digit_sums.proofs.Marks.{none_marked, located_kept}
use Rattle.digit_sums.proofs.inputs_kept.Goals as goal

pub mark_all_by-requires-clause-marked : goal.mark_all_by-requires-clause-marked
mark_all_by-requires-clause-marked c = none_marked _ _ 136

pub returns-then-mark_all_by : goal.returns-then-mark_all_by
returns-then-mark_all_by c = λ yes. located_kept _ _ _ (sym c.record_allowed.ensures ∙ c.if-not-record_allowed.false) (c.each_found.ensures yes) _ (c.mark_all_by.ensures.listed c.if-mark_all_by.true)
