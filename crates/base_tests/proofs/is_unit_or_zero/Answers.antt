-- The size of the determinant.
use mathlib.Core.Path.{refl, ap, ◌∙◌}
use Prim.Native.Nat.{◌^◌}
use lib.Dec.{leb}
use lib.IntN.{nat_abs}
use mir.Syntax.{w64}
use Rattle.integers.proofs.Machine.{Term, leaf, stored_is, stored_below}
use Rattle.base_tests.proofs.is_unit_or_zero.Goals as goal

pub size-requires : goal.size-requires
size-requires c =
    let whole : Term = leaf c.determinant.result (2 ^ 61) c.determinant.ensures.within in
    stored_below w64 (whole) refl

pub returns : goal.returns
returns c =
    let whole : Term = leaf c.determinant.result (2 ^ 61) c.determinant.ensures.within in
    ap (λ n. leb n 1) (c.size.ensures ∙ ap nat_abs (stored_is w64 (whole) refl ∙ c.determinant.ensures.determinant))
