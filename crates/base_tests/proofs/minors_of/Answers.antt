-- One by one, as they are read back.
use mathlib.Core.Path.{refl, sym, subst, ◌∙◌}
use Prim.Native.Nat.{ℕ, ◌^◌, ◌<◌}
use lib.Dec.{lit≤}
use mir.Syntax.{w64}
use mir.ValLaws.{to_z-of_z}
use Rattle.lists.proofs.Cons.{cons≡}
use lib.IntN.{ℤ}
use mathlib.Core.List.{List}
use Rattle.ring.specs.Tests.{Within, LimitedBy, row_limits}
use Rattle.ring.proofs.Columns.{limited_within}
use Rattle.base_tests.specs.Minors.{minors, minor_limits}
use Rattle.base_tests.proofs.Minors.{minors_limited}
use borrow.Author.Rules.{rules}
use Rattle.base_tests.proofs.minors_of.Goals as goal

small : (first second : List ℤ) {p q : ℕ} → LimitedBy row_limits first × LimitedBy row_limits second → p < 4 → q < 4 → Within (2 ^ 21) first × Within (2 ^ 21) second × (p < 4) × (q < 4)
small first second limited l m = (limited_within first limited.0, limited_within second limited.1, l, m)

pub cross-requires : goal.cross-requires
cross-requires c = small c.args.first c.args.second c.requires (lit≤ tt) (lit≤ tt)

pub cross-requires-2 : goal.cross-requires-2
cross-requires-2 c = small c.args.first c.args.second c.requires (lit≤ tt) (lit≤ tt)

pub cross-requires-3 : goal.cross-requires-3
cross-requires-3 c = small c.args.first c.args.second c.requires (lit≤ tt) (lit≤ tt)

pub cross-requires-4 : goal.cross-requires-4
cross-requires-4 c = small c.args.first c.args.second c.requires (lit≤ tt) (lit≤ tt)

pub cross-requires-5 : goal.cross-requires-5
cross-requires-5 c = small c.args.first c.args.second c.requires (lit≤ tt) (lit≤ tt)

pub cross-requires-6 : goal.cross-requires-6
cross-requires-6 c = small c.args.first c.args.second c.requires (lit≤ tt) (lit≤ tt)

pub returns : goal.returns
unfolding minors
returns c =
    let s = c in
    let read = cons≡ (to_z-of_z w64 c.cross.result (search rules) ∙ c.cross.ensures) (cons≡ (to_z-of_z w64 c.cross-2.result (search rules) ∙ c.cross-2.ensures) (cons≡ (to_z-of_z w64 c.cross-3.result (search rules) ∙ c.cross-3.ensures) (cons≡ (to_z-of_z w64 c.cross-4.result (search rules) ∙ c.cross-4.ensures) (cons≡ (to_z-of_z w64 c.cross-5.result (search rules) ∙ c.cross-5.ensures) (cons≡ (to_z-of_z w64 c.cross-6.result (search rules) ∙ c.cross-6.ensures) refl))))) in
    record { minors = read; within = subst (LimitedBy minor_limits) (sym read) (minors_limited s.args.first s.args.second s.requires.0 s.requires.1) }
