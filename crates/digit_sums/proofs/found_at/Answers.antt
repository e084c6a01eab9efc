-- By its mark, or looked for now.
use borrow.Author.Tests.{eqb-true}
use lib.Dec.{eqb}
use mathlib.Core.Bool.{true}
use mathlib.Core.Path.{◌≡◌, sym, ap, ◌∙◌}
use Prim.Native.Nat.{ℕ, ◌^◌}
use native.Mathlib.Omega.{arith}
use Rattle.std.specs.Prelude.{Option, Some, None}
use Rattle.std.specs.Option.{option_eq}
use Rattle.ring.proofs.Element.{within_le}
use Rattle.lists.proofs.Found.{some_below}
use Rattle.digit_sums.specs.Marks.{located}
use Rattle.digit_sums.proofs.found_at.Goals as goal

is_some : (found : Option ℕ) (k : ℕ) → option_eq eqb found (Some k) ≡ true → found ≡ Some k
is_some None k e = cc
is_some (Some i) k e = ap (λ (j : ℕ). Some j) (eqb-true i k e)

pub locate-requires : goal.locate-requires
locate-requires c = record { inputs = c.requires.inputs.1; within = within_le 32768 (2 ^ 56) _ (omega arith) c.record_at-x.ensures.within }

pub returns : goal.returns
returns c =
    λ yes. sym (ap (located _ _ _) c.record_at-x.ensures.element) ∙ sym (some_below _ _ c.args.k (sym c.locate.ensures ∙ is_some _ _ (sym c.eq.ensures ∙ yes))).0
