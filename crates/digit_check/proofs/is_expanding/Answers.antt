-- The four numbers as they stand in the section.
use mathlib.Core.Path.{◌∙◌}
use Rattle.lists.specs.Span.{span}
use Rattle.ring.specs.Padded.{padded}
use Rattle.digit_rules.specs.Record.{parts_at, element_at}
use Rattle.digit_rules.proofs.Base.{base_limits}
use Rattle.digit_rules.proofs.Record.{passed_on}
use Rattle.digit_check.proofs.is_expanding.Goals as goal

pub is_expanding-requires : goal.is_expanding-requires
unfolding element_at parts_at padded span
is_expanding-requires c =
    rw (passed_on _ _ (c.signed.ensures.number, c.signed.ensures.within), passed_on _ _ (c.signed-2.ensures.number, c.signed-2.ensures.within), passed_on _ _ (c.signed-3.ensures.number, c.signed-3.ensures.within), passed_on _ _ (c.signed-4.ensures.number, c.signed-4.ensures.within))
    (base_limits _ c.requires)

pub returns : goal.returns
unfolding element_at parts_at padded span
returns c =
    c.is_expanding.ensures
    ∙ rw (passed_on _ _ (c.signed.ensures.number, c.signed.ensures.within), passed_on _ _ (c.signed-2.ensures.number, c.signed-2.ensures.within), passed_on _ _ (c.signed-3.ensures.number, c.signed-3.ensures.within), passed_on _ _ (c.signed-4.ensures.number, c.signed-4.ensures.within))
