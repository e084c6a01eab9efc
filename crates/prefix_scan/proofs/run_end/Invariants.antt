-- The leaves passed have the digit.
use mathlib.Core.Path.{◌≡◌}
use Prim.Native.Nat.{◌-◌}
use lib.Dec.{eqb}
use Rattle.layout_rules.specs.Section.{of_degree}
use Rattle.lists.specs.Scan.{first_failing}
use Rattle.leaf_rules.specs.Leaf.{code_of}
use Rattle.prefix_scan.proofs.run_end.Given as goal

abbrev pub invariant-loop-leaf : goal.invariant-loop-leaf
invariant-loop-leaf l = first_failing (λ k. eqb ((code_of (of_degree l.degree l.leaves) l.words).digit k l.place) l.digit) l.leaf (l.high - l.leaf) ≡ first_failing (λ k. eqb ((code_of (of_degree l.degree l.leaves) l.words).digit k l.place) l.digit) l.low (l.high - l.low)
