-- Where index 0 is the digit zero, the top bytes that are 0 are digits that are zero.
use Rattle.layout_rules.specs.Section.{of_degree}
use Rattle.digit_rules.specs.Record.{record_at}
use Rattle.ring.proofs.Element.{same→≡}
use mathlib.Core.Path.{sym, ap, ◌∙◌}
use Rattle.row_value.proofs.counted_places.Goals as goal

pub returns : goal.returns
returns c =
    record { within = c.significant.ensures.inside; zeros = λ k low high. ap (record_at (of_degree c.args.degree c.args.alphabet.now)) (c.significant.ensures.zeros k low) ∙ sym c.record_at.ensures.element ∙ same→≡ _ _ (sym c.equal.ensures ∙ c.if-not-equal.false) }
