-- Each of the eight entries is the window's digit.
use mathlib.Core.List.{[], ◌∷◌}
use Rattle.lists.specs.Span.{span}
use Rattle.place_weights.proofs.window_below.Goals as goal

pub returns : goal.returns
unfolding span
returns c =
    let digit-below = c.digit_below in
    let digit-below2 = c.digit_below-2 in
    let digit-below3 = c.digit_below-3 in
    let digit-below4 = c.digit_below-4 in
    λ i. digit-below.ensures i ∷ digit-below2.ensures i ∷ digit-below3.ensures i ∷ digit-below4.ensures i ∷ c.digit_below-5.ensures i ∷
    c.digit_below-6.ensures i ∷ c.digit_below-7.ensures i ∷ c.digit_below-8.ensures i ∷ []
