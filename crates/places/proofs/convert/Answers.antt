use mathlib.Core.Path.{◌≡◌, refl, sym, subst, ◌∙◌}
use Prim.Native.Nat.{ℕ, ◌<◌, ◌+◌}
use native.Mathlib.Omega.{arith}
use lib.Dec.{lit<}
use Rattle.layout_rules.specs.Section.{of_degree}
use Rattle.digit_rules.specs.Record.{element_count}
use Rattle.numeration.specs.Elements.{elements}
use Rattle.numeration.proofs.Reach.{reach_none}
use Rattle.numeration.proofs.Leaves.{get_d_inputs}
use Rattle.leaf_rules.specs.Given.{weight_given}
use Rattle.leaf_rules.specs.Leaf.{code_of}
use Rattle.place_rules.proofs.Counted.{counted_none}
use Rattle.lists.proofs.Found.{some_below, none_below}
use Rattle.places.proofs.Loop.{converted_start, converted_next, converted_here, converted_end}
use Rattle.place_rules.proofs.Place.{window_first, index_from, leaf_weight, leaf_size}
use Rattle.places.proofs.Tried.{firsts_none}
use Rattle.ring.specs.Degree.{part_count}
use Rattle.places.proofs.convert.Goals as goal

pub record_count-requires : goal.record_count-requires
record_count-requires c = lit< tt

pub leaf_into-lowest-requires : goal.leaf_into-lowest-requires
leaf_into-lowest-requires c = c.requires.4

pub loop-k-init : goal.loop-k-init
loop-k-init c =
    let a = c.args in
    let leaves = of_degree a.degree a.leaves.now in
    let words = a.words.now in
    let row = a.row.now in
    let lowest = c.leaf_into-lowest.ensures in
    let reach = c.reach_below-reach in
    let below = reach_none (code_of leaves words) row a.from reach.result reach.ensures.zero (λ some. reach.ensures.above some ∙ leaf_size leaves words row _ _ _ lowest) in
    (converted_start (elements (part_count a.degree) a.base) (of_degree a.degree a.alphabet.now) (of_degree a.degree a.inputs.now) leaves words row a.from a.count a.out.now c.leaf_into-lowest.result.leaf reach.result (leaf_weight leaves words row _ _ _ lowest) lowest.listed below, firsts_none (of_degree a.degree a.alphabet.now) 256, counted_none leaves 65535 reach.result (omega (arith, c.requires.7)))

pub overflow_add-from : goal.overflow_add-from
overflow_add-from c = omega (arith, c.requires.5)

pub overflow_add-from-in-loop-k : goal.overflow_add-from-in-loop-k
overflow_add-from-in-loop-k c = omega (arith, c.requires.5)

pub overflow_add-from-in-loop-k-2 : goal.overflow_add-from-in-loop-k-2
overflow_add-from-in-loop-k-2 c = omega (arith, c.requires.5)

pub leaf_tried-upper-requires : goal.leaf_tried-upper-requires
leaf_tried-upper-requires c =
    let a = c.args in
    let loop = c.loop-k in
    record { window = (c.requires.4, c.byte_at-first.ensures ∙ window_first a.row.now (a.from + loop.k)); found = (c.requires.7, loop.invariant.2) }

pub out_index_by-requires : goal.out_index_by-requires
out_index_by-requires c =
    let a = c.args in
    let pre = c.requires in
    let loop = c.loop-k in
    let byte_at = c.byte_at-first in record {
      sizes = (
        pre.0,
        subst (λ (n : ℕ). n < element_count (of_degree a.degree a.inputs.now)) (sym byte_at.ensures) (get_d_inputs (element_count (of_degree a.degree a.inputs.now)) a.row.now pre.2 pre.3 (a.from + loop.k)),
        loop.invariant.0.listed,
        c.leaf_tried-upper.ensures.leaf.listed,
      );
      alphabet = (pre.1, loop.invariant.1);
    }

pub overflow_cast-out : goal.overflow_cast-out
overflow_cast-out c =
    let (at, there) = some_below _ _ c.in-Some.index (sym c.out_index_by.ensures.index ∙ c.in-Some.is) in
    omega (arith, c.requires.1, at, there)

pub returns-in_default-clause-count : goal.returns-in_default-clause-count
returns-in_default-clause-count c =
    let a = c.args in
    let o = elements (part_count a.degree) a.base in
    let alphabet = of_degree a.degree a.alphabet.now in
    let inputs = of_degree a.degree a.inputs.now in
    let leaves = of_degree a.degree a.leaves.now in
    let loop = c.loop-k in
    let own = leaf_weight leaves a.words.now a.row.now _ _ _ c.leaf_tried-upper.ensures.leaf in
    let at = index_from o alphabet inputs leaves a.words.now a.row.now (a.from + loop.k) c.byte_at-first.result _ (weight_given leaves loop.below) (weight_given leaves c.leaf_tried-upper.result.leaf) c.byte_at-first.ensures loop.invariant.0.weight own refl in
    (converted_here o alphabet inputs leaves a.words.now a.row.now a.from a.count a.out.now loop.out loop.below loop.reach loop.k loop.invariant.0 _ c.loop-k-test.true at (none_below _ _ (sym c.out_index_by.ensures.index ∙ c.in_default.is))).0

pub loop-k-preserved : goal.loop-k-preserved
loop-k-preserved c =
    let a = c.args in
    let o = elements (part_count a.degree) a.base in
    let alphabet = of_degree a.degree a.alphabet.now in
    let inputs = of_degree a.degree a.inputs.now in
    let leaves = of_degree a.degree a.leaves.now in
    let words = a.words.now in
    let row = a.row.now in
    let loop = c.loop-k in
    let tried = c.leaf_tried-upper in
    let own = leaf_weight leaves words row _ _ _ tried.ensures.leaf in
    let found = some_below _ _ c.in-Some.index (sym c.out_index_by.ensures.index ∙ c.in-Some.is) in
    let at = index_from o alphabet inputs leaves words row (a.from + loop.k) c.byte_at-first.result c.in-Some.index (weight_given leaves loop.below) (weight_given leaves tried.result.leaf) c.byte_at-first.ensures loop.invariant.0.weight own found.0 in (
      converted_next o alphabet inputs leaves words row a.from a.count a.out.now loop.out loop.below loop.reach loop.k loop.invariant.0 tried.result.leaf c.in-Some.index _ tried.result.reach c.loop-k-test.true c.requires.6 at (omega (arith, found.0, found.1)) own tried.ensures.leaf.listed
          (leaf_size leaves words row _ _ _ tried.ensures.leaf) tried.ensures.reach,
      c.out_index_by.ensures.slots,
      tried.ensures.found,
    )

pub returns-clause-count : goal.returns-clause-count
returns-clause-count c =
    let a = c.args in
    let loop = c.loop-k in
    let end : loop.k ≡ a.count = omega arith in
    sym end ∙ (converted_end (elements (part_count a.degree) a.base) (of_degree a.degree a.alphabet.now) (of_degree a.degree a.inputs.now) (of_degree a.degree a.leaves.now) a.words.now a.row.now a.from a.count a.out.now loop.out loop.below loop.reach loop.k loop.invariant.0 c.loop-k-test.false).0
