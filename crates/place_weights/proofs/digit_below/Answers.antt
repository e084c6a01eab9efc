-- A place at or below k has no digit there.
use mathlib.Core.Path.{◌∙◌}
use Rattle.place_rules.proofs.Place.{window_outside, window_inside}
use Rattle.place_weights.proofs.digit_below.Goals as goal

pub returns-then-place-k : goal.returns-then-place-k
returns-then-place-k c = window_outside c.args.row.now c.args.place c.args.k c.if-place-k.true

pub returns : goal.returns
returns c = c.byte_at.ensures ∙ window_inside c.args.row.now c.args.place c.args.k c.if-place-k.false
