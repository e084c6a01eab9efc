-- After some leaves the most is the largest of their shown words, and 1 at least.
use Rattle.layout_rules.specs.Section.{of_degree}
use Rattle.listing_rules.specs.Listing.{word_shown}
use Rattle.numeration.specs.LeafOf.{largest}
use lib.ListN.{length}
use Prim.Native.Nat.{◌≤◌, max}
use mathlib.Core.Path.{◌≡◌}
use Rattle.listing.proofs.columns.Given as goal

abbrev pub invariant-loop-leaf : goal.invariant-loop-leaf
invariant-loop-leaf l = (l.most ≡ max 1 (largest (λ k. length (word_shown (of_degree l.degree l.leaves) l.words k)) l.leaf)) × (l.most ≤ 8)
