-- The numbers s and t as they stand in the section.
use mathlib.Core.Path.{ap, ◌∙◌}
use mathlib.Core.Bool.{not}
use Rattle.lists.specs.Span.{span}
use Rattle.ring.specs.Base.{discriminant}
use Rattle.ring.specs.Padded.{padded}
use Rattle.ring.specs.Tests.{perfect_square}
use Rattle.digit_rules.specs.Record.{parts_at, element_at}
use Rattle.digit_rules.proofs.Base.{base_limits}
use Rattle.digit_rules.proofs.Record.{passed_on}
use Rattle.digit_check.proofs.is_square_free.Goals as goal

pub has_square_discriminant-requires : goal.has_square_discriminant-requires
unfolding element_at parts_at padded span
has_square_discriminant-requires c =
    let limits = base_limits _ c.requires in
    rw (passed_on _ _ (c.signed.ensures.number, c.signed.ensures.within), passed_on _ _ (c.signed-2.ensures.number, c.signed-2.ensures.within)) (limits.of_s, limits.of_t)

pub returns : goal.returns
unfolding element_at parts_at padded span
returns c =
    ap not c.has_square_discriminant.ensures
    ∙ (λ i. not (perfect_square (discriminant (passed_on _ _ (c.signed.ensures.number, c.signed.ensures.within) i) (passed_on _ _ (c.signed-2.ensures.number, c.signed-2.ensures.within) i))))
