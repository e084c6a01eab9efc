-- Record and part of the m-th number, by division.
use mathlib.Core.Path.{◌≡◌}
use Prim.Native.Nat.{◌+◌, ◌-◌, ◌*◌, ◌/◌, ◌%◌}
use Rattle.layout_rules.specs.Limit.{number_place}
use Rattle.layout_rules.proofs.Limit.{some_part, place_read}
use native.Mathlib.Omega.{arith}
use Rattle.limits.proofs.number_place.Goals as goal

pub nonzero_div-result : goal.nonzero_div-result
nonzero_div-result c = omega (arith, c.part_count-parts.ensures.count, some_part c.args.degree)

pub overflow_mul-result : goal.overflow_mul-result
overflow_mul-result c =
    let place : (let a = c.args in a.m / c.part_count-parts.result * a.size + (a.size - 2 * c.part_count-parts.result) + 2 * (a.m % c.part_count-parts.result) ≡ number_place a.degree a.size a.m) = place_read _ _ _ _ c.part_count-parts.ensures.count in
    omega (arith, place, c.requires.1)

pub overflow_mul-result-2 : goal.overflow_mul-result-2
overflow_mul-result-2 c = omega (arith, c.part_count-parts.ensures.within)

pub overflow_sub-result : goal.overflow_sub-result
overflow_sub-result c = omega (arith, c.part_count-parts.ensures.count, c.requires.0)

pub overflow_add-result : goal.overflow_add-result
overflow_add-result c =
    let place : (let a = c.args in a.m / c.part_count-parts.result * a.size + (a.size - 2 * c.part_count-parts.result) + 2 * (a.m % c.part_count-parts.result) ≡ number_place a.degree a.size a.m) = place_read _ _ _ _ c.part_count-parts.ensures.count in
    omega (arith, place, c.requires.1)

pub nonzero_rem-result : goal.nonzero_rem-result
nonzero_rem-result c = omega (arith, c.part_count-parts.ensures.count, some_part c.args.degree)

pub overflow_mul-result-3 : goal.overflow_mul-result-3
overflow_mul-result-3 c =
    let place : (let a = c.args in a.m / c.part_count-parts.result * a.size + (a.size - 2 * c.part_count-parts.result) + 2 * (a.m % c.part_count-parts.result) ≡ number_place a.degree a.size a.m) = place_read _ _ _ _ c.part_count-parts.ensures.count in
    omega (arith, place, c.requires.1)

pub overflow_add-result-2 : goal.overflow_add-result-2
overflow_add-result-2 c =
    let place : (let a = c.args in a.m / c.part_count-parts.result * a.size + (a.size - 2 * c.part_count-parts.result) + 2 * (a.m % c.part_count-parts.result) ≡ number_place a.degree a.size a.m) = place_read _ _ _ _ c.part_count-parts.ensures.count in
    omega (arith, place, c.requires.1)

pub returns : goal.returns
returns c =
    let place : (let a = c.args in a.m / c.part_count-parts.result * a.size + (a.size - 2 * c.part_count-parts.result) + 2 * (a.m % c.part_count-parts.result) ≡ number_place a.degree a.size a.m) = place_read _ _ _ _ c.part_count-parts.ensures.count in
    place
