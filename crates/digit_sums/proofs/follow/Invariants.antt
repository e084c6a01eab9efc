-- What is found from here with the links that are left is what is found from the first one.
use mathlib.Core.Path.{◌≡◌}
use Prim.Native.Nat.{◌-◌}
use Rattle.layout_rules.specs.Section.{of_degree}
use Rattle.digit_sums.specs.Marks.{followed}
use Rattle.digit_sums.proofs.follow.Given as goal

abbrev pub invariant-loop : goal.invariant-loop
invariant-loop l = followed (of_degree l.degree l.inputs) l.links l.x (136 - l.counter) l.at ≡ followed (of_degree l.degree l.inputs) l.links l.x 136 l.first
