-- Where the quick look says yes rules 9 to 12 are kept and rule 13 is left; else the scans say it.
use Rattle.layout_rules.specs.Section.{of_degree}
use Rattle.prefix_code.proofs.Quick.{kept_last}
use mathlib.Core.Path.{ap, ◌∙◌}
use Rattle.faults.specs.Passed.{passed}
use Rattle.prefix_code.proofs.prefix_code.Goals as goal

pub zero_weight-requires : goal.zero_weight-requires
zero_weight-requires c = (c.well_coded.ensures c.if-well_coded.true).some

pub returns-then-well_coded : goal.returns-then-well_coded
returns-then-well_coded c = c.zero_weight.ensures ∙ ap passed (kept_last (of_degree c.args.degree c.args.leaves.now) c.args.words.now c.args.inputs (c.well_coded.ensures c.if-well_coded.true))
