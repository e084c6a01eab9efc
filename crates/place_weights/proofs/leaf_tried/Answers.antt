-- What is tried and what is kept changes nothing of the leaf found.
use Rattle.layout_rules.specs.Section.{of_degree}
use Rattle.place_rules.proofs.Counted.{counted_more}
use native.Mathlib.Omega.{arith}
use Rattle.place_weights.proofs.leaf_tried.Goals as goal

pub leaf_below-below-requires : goal.leaf_below-below-requires
leaf_below-below-requires c =
    let s = c in
    let window-slot = c.window_slot-slot in
    (s.requires.window.0, s.requires.window.1, s.requires.found.1.counted window-slot.result window-slot.ensures)

pub overflow_cast-found : goal.overflow_cast-found
overflow_cast-found c = omega (arith, c.leaf_below-below.ensures.leaf.listed, c.requires.found.0)

pub returns : goal.returns
returns c =
    let s = c in
    let a = s.args in
    let below = c.leaf_below-below in
    let slot = c.window_slot-slot.result in
    record { leaf = below.ensures.leaf; reach = below.ensures.reach; found = counted_more (of_degree a.degree a.leaves.now) a.found.now a.reach slot below.result.leaf below.result.reach s.requires.found.1 below.ensures.reach }
