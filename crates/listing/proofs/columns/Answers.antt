use Rattle.layout_rules.specs.Section.{of_degree}
use Rattle.listing_rules.specs.Listing.{word_shown, columns_for}
use Rattle.leaf_rules.proofs.Leaf.{largest_next}
use Rattle.leaf_rules.specs.Leaf.{leaf_count}
use Rattle.numeration.specs.LeafOf.{largest}
use lib.ListN.{length}
use native.Mathlib.Omega.{arith}
use mathlib.Core.Path.{◌≡◌, refl, ap}
use Rattle.listing.proofs.columns.Goals as goal

pub loop-leaf-init : goal.loop-leaf-init
unfolding largest
loop-leaf-init c = (refl, omega arith)

pub loop-leaf-preserved : goal.loop-leaf-preserved
loop-leaf-preserved c =
    let a = c.args in
    let next = largest_next (λ k. length (word_shown (of_degree a.degree a.leaves.now) a.words.now k)) c.loop-leaf.leaf in
    (omega (arith, next, ap length c.word_shown.ensures.word), omega (arith, c.word_shown.ensures.within))

pub returns : goal.returns
unfolding columns_for
returns c =
    let all : c.loop-leaf.leaf ≡ leaf_count (of_degree c.args.degree c.args.leaves.now) = omega arith in
    record { count = rw all at c.loop-leaf.invariant.0; within = c.loop-leaf.invariant.1 }
