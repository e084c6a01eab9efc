-- Record 0 is compared with zero, any other is looked for before itself: none is found where its index is its own.
use mathlib.Core.Path.{◌≡◌, refl, sym, ap, ◌∙◌}
use mathlib.Core.Bool.{not}
use Prim.Native.Nat.{ℕ, ◌≤◌}
use native.Mathlib.Decide.{dec_lt}
use native.Mathlib.Omega.{arith}
use lib.Dec.{eqb, ltb}
use borrow.Author.Tests.{eq-eqb, ne_eqb, lt-ltb, le-ltb}
use Rattle.std.specs.Option.{is_some}
use Rattle.lists.proofs.Found.{is_some_below, not_not}
use Rattle.digit_rules.proofs.Allowed.{allowed_first, allowed_later}
use Rattle.digit_rules.proofs.Index.{index_high}
use Rattle.digits.proofs.record_allowed.Goals as goal

not_below : (i k : ℕ) → i ≤ k → not (ltb i k) ≡ eqb i k
not_below i k high =
    elim (dec_lt i k) [
      | yes h ↦ ap not (lt-ltb i k h) ∙ sym (ne_eqb i k (λ e. omega arith))
      | no h ↦ ap not (le-ltb i k (omega arith)) ∙ sym (eq-eqb i k (omega arith))
    ]

pub returns-then-k-eq0 : goal.returns-then-k-eq0
returns-then-k-eq0 c = allowed_first _ _ _ c.record_at-x.ensures.element _ c.if-k-eq0.true c.equal.ensures

pub returns-else-k-eq0 : goal.returns-else-k-eq0
returns-else-k-eq0 c =
    not_not _ _ (sym c.is_none.ensures) ∙ ap not (ap is_some c.find.ensures ∙ is_some_below _ _) ∙ not_below _ _ (index_high _ _ _)
    ∙ allowed_later _ _ _ c.record_at-x.ensures.element _ c.if-k-eq0.false refl
