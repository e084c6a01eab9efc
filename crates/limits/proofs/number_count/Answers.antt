-- No more than the bytes: a record has two for each number.
use mathlib.Core.Path.{ap}
use Prim.Native.Nat.{ℕ, ◌*◌, ◌/◌}
use native.Mathlib.Nat.{mul-le-mul_left, div-mul-le_self}
use native.Mathlib.Omega.{arith}
use lib.ListN.{length}
use Rattle.layout_rules.specs.Limit.{number_count}
use Rattle.layout_rules.proofs.Limit.{some_part}
use Rattle.limits.proofs.number_count.Goals as goal

pub nonzero_div-result : goal.nonzero_div-result
nonzero_div-result c = omega (arith, some_part c.args.degree, c.requires)

pub overflow_mul-result : goal.overflow_mul-result
overflow_mul-result c =
    let a = c.args in
    let n = length a.part.now in
    omega (arith, mul-le-mul_left {m = c.part_count.result} {n = a.size} (n / a.size) (omega (arith, c.part_count.ensures.count, c.requires)), div-mul-le_self n a.size)

pub returns : goal.returns
unfolding number_count
returns c = ap (λ (n : ℕ). length c.args.part.now / c.args.size * n) c.part_count.ensures.count
