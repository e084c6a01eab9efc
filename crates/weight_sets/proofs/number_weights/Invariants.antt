-- The leaves passed have the number of a leaf with their weight.
use Rattle.layout_rules.specs.Section.{of_degree}
use Prim.Native.Nat.{◌≤◌}
use Rattle.weight_sets.specs.Weights.{WeightsNumbered}
use Rattle.weight_sets.proofs.number_weights.Given as goal

abbrev pub invariant-loop-leaf : goal.invariant-loop-leaf
invariant-loop-leaf l = (l.count ≤ 64) × WeightsNumbered (of_degree l.degree l.leaves) l.numbers l.first l.count l.leaf
