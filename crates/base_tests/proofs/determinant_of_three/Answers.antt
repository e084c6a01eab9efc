-- The upper rows' minors and the last row.
use mathlib.Core.Path.{refl, sym, ap, ◌∙◌}
use mathlib.Core.List.{[]}
use Prim.Native.Nat.{◌^◌}
use lib.ListN.{get_or}
use mir.Syntax.{w64}
use Rattle.integers.proofs.Machine.{leaf, stored_is, stored_bound}
use Rattle.ring.proofs.Parts.{limited_row}
use Rattle.ring.proofs.Determinant.{three_by_minors}
use Rattle.base_tests.specs.Minors.{minors, with_last}
use borrow.Author.Rules.{rules}
use Rattle.base_tests.proofs.determinant_of_three.Goals as goal

pub minors_of-requires : goal.minors_of-requires
minors_of-requires c = let s = c in (limited_row s.args.rows s.requires 0, limited_row s.args.rows s.requires 1)

pub with_last-requires : goal.with_last-requires
with_last-requires c = let s = c in (c.minors_of.ensures.within, limited_row s.args.rows s.requires 2)

pub returns : goal.returns
unfolding minors
returns c =
    let s = c in
    let t = leaf c.with_last.result (2 ^ 61) c.with_last.ensures.within in
    record { determinant = stored_is w64 t refl ∙ c.with_last.ensures.sum ∙ ap (λ upper. with_last upper (get_or s.args.rows 2 [])) c.minors_of.ensures.minors ∙ sym (three_by_minors s.args.rows (search rules)); within = stored_bound w64 t refl }
