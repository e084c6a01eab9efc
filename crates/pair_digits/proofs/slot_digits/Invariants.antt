-- The digits passed have slots of their own.
use Rattle.layout_rules.specs.Section.{of_degree}
use Rattle.pair_digits.specs.Slots.{SlottedBefore}
use Rattle.pair_digits.proofs.slot_digits.Given as goal

abbrev pub invariant-loop-digit : goal.invariant-loop-digit
invariant-loop-digit l = SlottedBefore (of_degree l.degree l.alphabet) l.slots l.digit
