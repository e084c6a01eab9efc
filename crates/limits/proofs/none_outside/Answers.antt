use mathlib.Core.Path.{◌≡◌, refl, ap}
use Rattle.layout_rules.specs.Section.{element_size}
use Rattle.layout_rules.proofs.Limit.{some_part, record_ends, allowed_next, allowed_all}
use borrow.Author.Tests.{ltb-true}
use native.Mathlib.Omega.{arith}
use lib.ListN.{length}
use Prim.Native.Nat.{ℕ, ◌+◌, ◌*◌, ◌-◌}
use Rattle.limits.proofs.none_outside.Goals as goal

pub overflow_cast-bound : goal.overflow_cast-bound
overflow_cast-bound c = omega (arith, c.requires.1)

pub nonzero_div-count : goal.nonzero_div-count
nonzero_div-count c = omega (arith, c.requires.0, some_part c.args.degree)

pub loop-k-init : goal.loop-k-init
loop-k-init c = λ low m h. absurd (omega arith)

pub overflow_mul-at : goal.overflow_mul-at
overflow_mul-at c = omega (arith, record_ends c.args.degree c.args.size c.requires.0 (length c.args.part.now) c.loop-k.k c.loop-k-test.true)

pub overflow_sub-at : goal.overflow_sub-at
overflow_sub-at c = omega (arith, c.element_size-element.ensures, c.requires.0)

pub overflow_add-at : goal.overflow_add-at
overflow_add-at c = omega (arith, record_ends c.args.degree c.args.size c.requires.0 (length c.args.part.now) c.loop-k.k c.loop-k-test.true)

pub raised_parts-requires : goal.raised_parts-requires
raised_parts-requires c = (omega (arith, record_ends c.args.degree c.args.size c.requires.0 (length c.args.part.now) c.loop-k.k c.loop-k-test.true, c.element_size-element.ensures, c.requires.0), c.requires.1)

pub loop-k-preserved : goal.loop-k-preserved
loop-k-preserved c =
    let s = c in
    let loop = c.loop-k in
    let at : loop.k * s.args.size + (s.args.size - c.element_size-element.result) ≡ loop.k * s.args.size + (s.args.size - element_size s.args.degree) =
    ap (λ (n : ℕ). loop.k * s.args.size + (s.args.size - n)) c.element_size-element.ensures in
    λ low. allowed_next _ _ _ _ _ s.requires.0 at (loop.invariant (omega arith)) (c.raised_parts.ensures (omega arith))

pub returns : goal.returns
returns c = λ yes. allowed_all _ _ _ _ _ refl c.loop-k-test.false (c.loop-k.invariant (ltb-true _ _ yes))
