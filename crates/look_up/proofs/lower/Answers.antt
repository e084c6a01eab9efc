-- At the first difference the bytes decide; where there is none the answer is no.
use mathlib.Core.Path.{refl, sym}
use native.Mathlib.Omega.{arith}
use Rattle.lists.proofs.Found.{some_below, none_below}
use Rattle.look_up.proofs.Comparison.{lower_differs, lower_same}
use Rattle.look_up.proofs.lower.Goals as goal

pub overflow_add-a : goal.overflow_add-a
overflow_add-a c = omega (arith, some_below _ _ _ (sym c.in-Some.ensures))

pub overflow_add-b : goal.overflow_add-b
overflow_add-b c = omega (arith, some_below _ _ _ (sym c.in-Some.ensures))

pub returns-in-Some : goal.returns-in-Some
returns-in-Some c =
    let found = some_below _ _ _ (sym c.in-Some.ensures) in
    lower_differs _ _ _ _ found.0 (omega (arith, found)) _ _ c.byte_at.ensures c.byte_at-in-Some.ensures

pub returns-in-None : goal.returns-in-None
returns-in-None c = lower_same _ _ _ _ refl (none_below _ _ (sym c.in-None.ensures))
