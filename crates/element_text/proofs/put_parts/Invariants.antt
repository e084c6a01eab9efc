-- After some parts their texts are written.
use mathlib.Core.Path.{◌≡◌}
use mathlib.Core.List.{◌++◌}
use lib.ListN.{length}
use Rattle.listing_rules.specs.Element.{parts_text}
use Rattle.element_text.proofs.put_parts.Given as goal

abbrev pub invariant-loop-k : goal.invariant-loop-k
invariant-loop-k g l = (l.text ≡ l.initial.text ++ parts_text l.x l.k) × (l.start ≡ length l.initial.text)
