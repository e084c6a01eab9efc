-- The degree that was told is the file's.
use Rattle.lists.proofs.Test.{clash}
use mathlib.Core.Path.{refl, sym, ◌∙◌}
use Rattle.limits.proofs.limits_kept.Goals as goal

pub returns-in-Two : goal.returns-in-Two
returns-in-Two c = λ yes. c.sections_at_two.ensures yes (sym c.requires.1 ∙ c.in-Two.is)

pub returns-in-Three : goal.returns-in-Three
returns-in-Three c = λ no. clash no refl
