-- What the operation makes of the two elements, looked for among all input digits.
use mathlib.Core.Path.{◌≡◌, sym, ap, ◌∙◌}
use Prim.Native.Nat.{ℕ, ◌≤◌}
use native.Mathlib.Decide.{dec_lt}
use native.Mathlib.Nat.{le_antisymm}
use native.Mathlib.Omega.{arith}
use Rattle.std.specs.Prelude.{Option}
use Rattle.std.specs.Option.{unwrap_or}
use Rattle.lists.specs.Found.{below}
use Rattle.lists.proofs.Found.{below_some, below_none}
use Rattle.digit_rules.specs.Digits.{pair_index}
use Rattle.digit_rules.proofs.Index.{index_high}
use Rattle.digits.proofs.pair_index.Goals as goal

or_count : (n i : ℕ) → i ≤ n → unwrap_or (below n i) n ≡ i
or_count n i high =
    elim (dec_lt i n) [
      | yes h ↦ ap (λ (o : Option ℕ). unwrap_or o n) (sym (below_some n i h))
      | no h ↦ ap (λ (o : Option ℕ). unwrap_or o n) (sym (below_none n i (omega arith))) ∙ le_antisymm {n = n} {m = i} (omega arith) high
    ]

pub returns : goal.returns
unfolding pair_index
returns c =
    c.unwrap_or.ensures ∙ ap (λ (o : Option ℕ). unwrap_or o c.record_count-count.result) c.find.ensures ∙ or_count _ _ (index_high _ _ _) ∙ rw (c.record_count-count.ensures, c.combined-x.ensures.element)
