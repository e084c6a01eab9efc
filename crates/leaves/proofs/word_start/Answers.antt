-- The first number of the record.
use mathlib.Core.Path.{ap, ◌∙◌}
use Rattle.layout_rules.specs.Number.{unsigned_at}
use Rattle.leaves.proofs.word_start.Goals as goal

pub returns : goal.returns
returns c = record { start = c.unsigned.ensures.number ∙ ap (unsigned_at c.args.leaves.now) c.record_start.ensures.start; within = c.unsigned.ensures.within }
