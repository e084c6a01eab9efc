-- Each of the eight entries is the upper word's next digit, or zero behind it.
use Rattle.lists.specs.Span.{span}
use mathlib.Core.List.{[], ◌∷◌}
use Rattle.pairs.proofs.tail_window.Goals as goal

pub returns : goal.returns
unfolding span
returns c =
    let byte_at = c.byte_at in
    let byte-at2 = c.byte_at-2 in
    let byte-at3 = c.byte_at-3 in
    let byte-at4 = c.byte_at-4 in
    λ i. byte_at.ensures i ∷ byte-at2.ensures i ∷ byte-at3.ensures i ∷ byte-at4.ensures i ∷ c.byte_at-5.ensures i ∷ c.byte_at-6.ensures i ∷
    c.byte_at-7.ensures i ∷ c.byte_at-8.ensures i ∷ []
