-- In 64 bits the sum of two 32-bit numbers fits, and its half is in their range again.
use mathlib.Core.Path.{◌≡◌, refl, ap, ap₂, ◌∙◌}
use Prim.Native.Nat.{◌^◌}
use lib.IntN.{ℤ, ◌+ℤ◌}
use lib.Signed.{nat_abs-le}
use mir.Syntax.{w32, w64}
use mir.Val.{SFits, to_z, of_z}
use mir.ValLaws.{to_z-of_z}
use mir.Facts.{sfits_widen}
use Rattle.integers.proofs.Machine.{Term, leaf, ◌⊕◌, computed_fits, stored, stored_is, stored_bound}
use Rattle.midpoint.specs.Halved.{halved}
use Rattle.midpoint.proofs.Halves.{half_range}
use Rattle.midpoint.proofs.half_sum.Goals as goal

-- a 32-bit number as it is read
abbrev read : (x : ℤ) → SFits w32 x → Term
read x f = leaf (to_z w32 (of_z w32 x)) (2 ^ 31) (rw (to_z-of_z w32 x f) (nat_abs-le x f.sfits))

pub overflow_cast-x : goal.overflow_cast-x
overflow_cast-x c = computed_fits w64 (read c.args.x c.ranges.x) refl

pub overflow_cast-y : goal.overflow_cast-y
overflow_cast-y c = computed_fits w64 (read c.args.y c.ranges.y) refl

pub overflow_add-x : goal.overflow_add-x
overflow_add-x c =
    let sum : Term = read c.args.x c.ranges.x ⊕ read c.args.y c.ranges.y in
    computed_fits w64 (sum) refl

pub half-requires : goal.half-requires
half-requires c =
    let sum : Term = read c.args.x c.ranges.x ⊕ read c.args.y c.ranges.y in
    stored_bound w64 (sum) refl

pub overflow_cast-result : goal.overflow_cast-result
overflow_cast-result c =
    let sum : Term = read c.args.x c.ranges.x ⊕ read c.args.y c.ranges.y in
    let sum_is : to_z w32 (of_z w32 c.args.x) +ℤ to_z w32 (of_z w32 c.args.y) ≡ c.args.x +ℤ c.args.y = ap₂ (λ x y. x +ℤ y) (to_z-of_z w32 c.args.x c.ranges.x) (to_z-of_z w32 c.args.y c.ranges.y) in
    let half-fits : SFits w32 (halved (c.args.x +ℤ c.args.y)) = record { sfits = half_range c.args.x c.args.y (2 ^ 31) c.ranges.x.sfits c.ranges.y.sfits } in
    let half_is : (r : ℤ) → r ≡ halved (stored w64 sum) → to_z w64 (of_z w64 r) ≡ halved (c.args.x +ℤ c.args.y) = λ r e. ap (λ z. to_z w64 (of_z w64 z)) (e ∙ ap halved (stored_is w64 sum refl ∙ sum_is)) ∙ to_z-of_z w64 _ (sfits_widen tt half-fits) in
    rw (half_is c.half.result c.half.ensures) (half-fits)

pub returns : goal.returns
returns c =
    let sum : Term = read c.args.x c.ranges.x ⊕ read c.args.y c.ranges.y in
    let sum_is : to_z w32 (of_z w32 c.args.x) +ℤ to_z w32 (of_z w32 c.args.y) ≡ c.args.x +ℤ c.args.y = ap₂ (λ x y. x +ℤ y) (to_z-of_z w32 c.args.x c.ranges.x) (to_z-of_z w32 c.args.y c.ranges.y) in
    let half-fits : SFits w32 (halved (c.args.x +ℤ c.args.y)) = record { sfits = half_range c.args.x c.args.y (2 ^ 31) c.ranges.x.sfits c.ranges.y.sfits } in
    let half_is : (r : ℤ) → r ≡ halved (stored w64 sum) → to_z w64 (of_z w64 r) ≡ halved (c.args.x +ℤ c.args.y) = λ r e. ap (λ z. to_z w64 (of_z w64 z)) (e ∙ ap halved (stored_is w64 sum refl ∙ sum_is)) ∙ to_z-of_z w64 _ (sfits_widen tt half-fits) in
    ap (λ z. to_z w32 (of_z w32 z)) (half_is c.half.result c.half.ensures) ∙ to_z-of_z w32 _ (half-fits)
