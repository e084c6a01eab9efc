-- The length of section 0 tells it.
use mathlib.Core.Path.{◌∙◌}
use Prim.Native.Nat.{◌+◌, ◌*◌}
use Rattle.layout_rules.specs.Number.{unsigned_at}
use Rattle.layout_rules.specs.Section.{degree_of}
use Rattle.layout.proofs.degree_in.Goals as goal

pub returns : goal.returns
unfolding unsigned_at
returns c =
    let low = c.from.ensures ∙ c.byte_at.ensures in
    let high = c.from-2.ensures ∙ c.byte_at-2.ensures in
    c.degree_of.ensures ∙ (λ i. degree_of (low i + 256 * high i))
