-- The upper rows' minors and the lower rows'.
use mathlib.Core.Path.{refl, sym, ap₂, ◌∙◌}
use Prim.Native.Nat.{◌^◌}
use mir.Syntax.{w64}
use Rattle.integers.proofs.Machine.{leaf, stored_is, stored_bound}
use Rattle.ring.proofs.Parts.{limited_row}
use Rattle.ring.proofs.Determinant.{four_by_minors}
use Rattle.base_tests.specs.Minors.{minors, with_lower}
use borrow.Author.Rules.{rules}
use Rattle.base_tests.proofs.determinant_of_four.Goals as goal

pub minors_of-requires : goal.minors_of-requires
minors_of-requires c = let s = c in (limited_row s.args.rows s.requires 0, limited_row s.args.rows s.requires 1)

pub minors_of-requires-2 : goal.minors_of-requires-2
minors_of-requires-2 c = let s = c in (limited_row s.args.rows s.requires 2, limited_row s.args.rows s.requires 3)

pub with_lower-requires : goal.with_lower-requires
with_lower-requires c = (c.minors_of.ensures.within, c.minors_of-2.ensures.within)

pub returns : goal.returns
unfolding minors
returns c =
    let s = c in
    let t = leaf c.with_lower.result (2 ^ 61) c.with_lower.ensures.within in
    record { determinant = stored_is w64 t refl ∙ c.with_lower.ensures.sum ∙ ap₂ with_lower c.minors_of.ensures.minors c.minors_of-2.ensures.minors ∙ sym (four_by_minors s.args.rows (search rules)); within = stored_bound w64 t refl }
