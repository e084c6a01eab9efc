-- A scan: the pairs that are left give the answer of all five.
use Rattle.layout_rules.specs.Directory.{pair_allowed}
use Rattle.lists.specs.Scan.{first_failing}
use mathlib.Core.Path.{◌≡◌}
use Prim.Native.Nat.{◌-◌}
use Rattle.directory.proofs.directory.Given as goal

abbrev pub invariant-loop-pair : goal.invariant-loop-pair
invariant-loop-pair l = first_failing (pair_allowed l.file) l.pair (5 - l.pair) ≡ first_failing (pair_allowed l.file) 0 5
