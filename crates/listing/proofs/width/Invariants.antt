-- After some records the longest is the largest of their texts' lengths.
use mathlib.Core.Path.{◌≡◌}
use Prim.Native.Nat.{◌≤◌}
use lib.ListN.{length}
use Rattle.numeration.specs.LeafOf.{largest}
use Rattle.listing_rules.specs.Element.{element_text}
use Rattle.layout_rules.specs.Section.{of_degree}
use Rattle.layout_rules.specs.Limit.{element_start}
use Rattle.digit_rules.specs.Record.{element_at}
use Rattle.listing.proofs.width.Given as goal

abbrev pub invariant-loop-k : goal.invariant-loop-k
invariant-loop-k l = (l.longest ≡ largest (λ i. length (element_text (element_at (of_degree l.degree l.part) (element_start l.degree l.section i)))) l.k) × (l.longest ≤ 31)
