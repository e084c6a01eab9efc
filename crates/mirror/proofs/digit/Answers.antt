-- The digit as it is stored, or its mirror image.
use Rattle.mirror_rules.specs.Half.{word_digit, mirror_index}
use mathlib.Core.Path.{sym, ap, ◌∙◌}
use native.Mathlib.Omega.{arith}
use Rattle.mirror.proofs.digit.Goals as goal

pub returns-then-mirrored : goal.returns-then-mirrored
unfolding word_digit
returns-then-mirrored c = record { digit = c.mirror.ensures.index ∙ ap (mirror_index c.args.positive) (c.from-stored.ensures ∙ c.byte_at.ensures) ∙ (λ i. word_digit c.args.positive c.args.words.now (sym c.if-mirrored.true i) c.args.at); within = c.mirror.ensures.within }

pub returns-else-mirrored : goal.returns-else-mirrored
unfolding word_digit
returns-else-mirrored c = record { digit = c.from-stored.ensures ∙ c.byte_at.ensures ∙ (λ i. word_digit c.args.positive c.args.words.now (sym c.if-mirrored.false i) c.args.at); within = omega (arith, c.from-stored.ensures) }
