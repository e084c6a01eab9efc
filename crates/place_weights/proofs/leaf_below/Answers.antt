-- The guessed leaf where it begins the window, which is counted already, else the one that the search finds.
use Rattle.layout_rules.specs.Section.{of_degree}
use Rattle.place_rules.proofs.Place.{leaf_begun, leaf_found}
use Rattle.leaf_rules.specs.Window.{LookedUp}
use Rattle.leaf_rules.specs.Leaf.{leaf_count, code_of}
use Prim.Native.Nat.{◌<◌, max}
use mathlib.Core.Path.{refl, ap, subst, ◌∙◌}
use native.Mathlib.Omega.{arith}
use Rattle.place_weights.proofs.leaf_below.Goals as goal

pub returns-then-begins_below : goal.returns-then-begins_below
returns-then-begins_below c =
    let s = c in
    let a = s.args in
    let listed : a.guess < leaf_count (of_degree a.degree a.leaves.now) = omega (arith, c.leaf_count.ensures, c.if-leaf-leaf_count.true) in
    record { leaf = leaf_begun (of_degree a.degree a.leaves.now) a.words.now a.row.now s.requires.0 a.place a.guess _ listed (c.begins_below.ensures c.if-begins_below.true) refl; reach = omega (arith, s.requires.2 listed) }

pub returns : goal.returns
returns c =
    let s = c in
    let a = s.args in
    let leaves = of_degree a.degree a.leaves.now in
    let words = a.words.now in
    let found = c.look_up_within-below in
    let is = leaf_found leaves words a.row.now s.requires.0 a.place found.result.leaf found.result.length
    (subst (λ w. LookedUp (code_of leaves words) w found.result.leaf) c.window_below.ensures found.ensures.leaf) found.ensures.length in
    record { leaf = record { is_leaf = is.is_leaf; is_size = refl; listed = is.listed }; reach = c.max.ensures ∙ ap (max a.reach) is.is_size }
