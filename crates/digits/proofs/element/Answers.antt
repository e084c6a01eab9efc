-- As many parts as the degree says.
use mathlib.Core.Path.{◌≡◌, sym, ap, ◌∙◌}
use mathlib.Core.List.{List}
use Prim.Native.Nat.{ℕ, ◌+◌, ◌*◌}
use lib.IntN.{ℤ}
use Rattle.lists.specs.Span.{span}
use Rattle.ring.specs.declared.Degree.{Degree}
use Rattle.ring.specs.declared.Degree.TheVariants.{Two, Three, Four}
use Rattle.ring.specs.Degree.{part_count}
use Rattle.ring.specs.Padded.{padded}
use Rattle.layout_rules.specs.Number.{signed_at}
use Rattle.layout_rules.specs.Section.{of_degree}
use Rattle.digit_rules.specs.Record.{parts_at, element_at}
use Rattle.digits.proofs.element.Goals as goal

whole : (d e : Degree) (bytes : List ℕ) (at : ℕ) (r : List ℤ) → d ≡ e → r ≡ padded (span (λ k. signed_at bytes (at + 2 * k)) 0 (part_count e)) → r ≡ element_at (of_degree d bytes) at
unfolding element_at parts_at
whole d e bytes at r told read = read ∙ ap (λ (f : Degree). element_at (of_degree f bytes) at) (sym told)

pub returns-in-Two-clause-element : goal.returns-in-Two-clause-element
returns-in-Two-clause-element c = whole _ Two _ _ _ c.in-Two.is c.parts_at.ensures.parts

pub returns-in-Three-clause-element : goal.returns-in-Three-clause-element
returns-in-Three-clause-element c = whole _ Three _ _ _ c.in-Three.is c.parts_at-in-Three.ensures.parts

pub returns-in-Four-clause-element : goal.returns-in-Four-clause-element
returns-in-Four-clause-element c = whole _ Four _ _ _ c.in-Four.is c.parts_at-in-Four.ensures.parts
