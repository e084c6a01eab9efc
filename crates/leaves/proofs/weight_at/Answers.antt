-- Section 3 read behind the word's two numbers.
use mathlib.Core.Path.{ap, ◌∙◌}
use Prim.Native.Nat.{ℕ, ◌+◌}
use Rattle.layout_rules.specs.Section.{of_degree}
use Rattle.digit_rules.specs.Record.{element_at}
use Rattle.leaf_rules.proofs.Leaf.{weight_there}
use Rattle.leaves.proofs.weight_at.Goals as goal

pub returns : goal.returns
returns c =
    let s = c in
    let leaves = of_degree s.args.degree s.args.leaves.now in
    record { weight = c.element.ensures.element ∙ ap (λ (n : ℕ). element_at leaves (n + 4)) c.record_start.ensures.start ∙ weight_there leaves s.args.leaf s.requires; within = c.element.ensures.within }
