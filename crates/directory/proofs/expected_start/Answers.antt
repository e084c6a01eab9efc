-- 20 for the first section, the end of the one before for any other.
use Rattle.layout_rules.proofs.Pair.{expected_next}
use Rattle.layout_rules.specs.Directory.{expected_start}
use mathlib.Core.Path.{sym, ◌∙◌}
use Rattle.directory.proofs.expected_start.Goals as goal

pub returns-then-section-eq0 : goal.returns-then-section-eq0
unfolding expected_start
returns-then-section-eq0 c = rw c.if-section-eq0.true

pub returns-else-section-eq0 : goal.returns-else-section-eq0
returns-else-section-eq0 c = c.section_end.ensures ∙ sym (expected_next _ _ c.if-section-eq0.false)
