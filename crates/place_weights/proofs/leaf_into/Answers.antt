-- The look_up's leaf begins the window.
use mathlib.Core.Path.{subst}
use Rattle.layout_rules.specs.Section.{of_degree}
use Rattle.leaf_rules.specs.Window.{LookedUp}
use Rattle.leaf_rules.specs.Leaf.{code_of}
use Rattle.place_rules.proofs.Place.{leaf_found}
use Rattle.place_weights.proofs.leaf_into.Goals as goal

pub returns : goal.returns
returns c =
    let s = c in
    let leaves = of_degree s.args.degree s.args.leaves.now in
    let words = s.args.words.now in
    let found = c.look_up.result in
    leaf_found leaves words s.args.row.now s.requires s.args.place found.leaf found.length
    (subst (λ w. LookedUp (code_of leaves words) w found.leaf) c.window_below.ensures c.look_up.ensures.leaf) c.look_up.ensures.length
