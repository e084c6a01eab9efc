use Rattle.layout_rules.specs.Section.{of_degree}
use Rattle.digit_rules.specs.Digits.{pair_index}
use mathlib.Core.Path.{ap, ap₂, ◌∙◌}
use native.Mathlib.Nat.{le_antisymm}
use native.Mathlib.Omega.{arith}
use Rattle.rows.specs.ChangedBy.{changed_by}
use Rattle.place_rules.specs.Helpers.{part_row}
use Rattle.place_rules.specs.Place.{input_at}
use Rattle.input_rows.proofs.Known.{known_none}
use Rattle.place_rules.proofs.Part.{row_start, row_next}
use Rattle.input_rows.proofs.input_row.Goals as goal

pub loop-place-init : goal.loop-place-init
loop-place-init c =
    let a = c.args in
    (omega arith, c.requires.0, row_start (input_at a.operation (of_degree a.degree a.alphabet.now) (of_degree a.degree a.inputs.now) (changed_by a.change 0 a.first.now) (changed_by a.change 1 a.second.now)) a.from, known_none a.operation (of_degree a.degree a.alphabet.now) (of_degree a.degree a.inputs.now))

pub learn_by-requires : goal.learn_by-requires
learn_by-requires c =
    let pre = c.requires in
    let here = c.loop-place.place in
    record { sizes = (pre.5, pre.2); indexes = (omega (arith, c.byte_at-upper.ensures, pre.3 here c.loop-place-test.true), omega (arith, c.byte_at-lower.ensures, pre.4 here c.loop-place-test.true)); known = c.loop-place.invariant.3 }

pub bounds-row-place : goal.bounds-row-place
bounds-row-place c = omega (arith, c.requires.1, c.loop-place-test.true)

pub overflow_add-place : goal.overflow_add-place
overflow_add-place c = omega (arith, c.requires.1, c.loop-place-test.true)

pub known_run-place-requires : goal.known_run-place-requires
known_run-place-requires c =
    let pre = c.requires in
    (omega (arith, c.loop-place-test.true), pre.1, λ k h. omega (arith, pre.3 k h, pre.5), λ k h. omega (arith, pre.4 k h, pre.5))

pub loop-place-smaller : goal.loop-place-smaller
loop-place-smaller c = omega (arith, c.known_run-place.ensures.place.0, c.known_run-place.ensures.place.1)

pub returns : goal.returns
returns c =
    let a = c.args in
    c.loop-place.invariant.2 ∙ ap (part_row (input_at a.operation (of_degree a.degree a.alphabet.now) (of_degree a.degree a.inputs.now) (changed_by a.change 0 a.first.now) (changed_by a.change 1 a.second.now)) a.from) (le_antisymm c.loop-place.invariant.1 c.loop-place-test.false)

pub loop-place-preserved : goal.loop-place-preserved
loop-place-preserved c =
    let a = c.args in
    let pre = c.requires in
    let loop = c.loop-place in
    let f = input_at a.operation (of_degree a.degree a.alphabet.now) (of_degree a.degree a.inputs.now) (changed_by a.change 0 a.first.now) (changed_by a.change 1 a.second.now) in
    let known = c.learn_by.ensures.known in
    let index = c.learn_by.ensures.index ∙ ap₂ (pair_index a.operation (of_degree a.degree a.alphabet.now) (of_degree a.degree a.inputs.now)) c.byte_at-upper.ensures c.byte_at-lower.ensures in
    let here = row_next f a.from loop.place loop.row c.learn_by.result loop.invariant.0 (omega (arith, pre.1, c.loop-place-test.true)) loop.invariant.2 index in
    (omega (arith, c.known_run-place.ensures.place.0, loop.invariant.0), c.known_run-place.ensures.place.1, c.known_run-place.ensures.row f a.from (omega (arith, loop.invariant.0)) here (λ k low high. known.right _ _ (omega (arith, pre.3 k (omega (arith, c.known_run-place.ensures.place.1)), pre.5)) (omega (arith, pre.4 k (omega (arith, c.known_run-place.ensures.place.1)), pre.5))), known)
