-- The links are followed from the slot of the element.
use mathlib.Core.Path.{◌∙◌}
use Rattle.digit_sums.specs.Marks.{located}
use Rattle.digit_sums.proofs.locate.Goals as goal

pub returns : goal.returns
unfolding located
returns c = c.follow.ensures ∙ rw c.slot_of-place.ensures.slot
