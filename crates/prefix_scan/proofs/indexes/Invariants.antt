-- The word bytes passed are input indexes.
use mathlib.Core.Path.{◌≡◌}
use Prim.Native.Nat.{◌-◌}
use lib.ListN.{length}
use Rattle.lists.specs.Scan.{first_failing}
use Rattle.prefix_rules.specs.Check.{word_index_allowed}
use Rattle.prefix_scan.proofs.indexes.Given as goal

abbrev pub invariant-loop-i : goal.invariant-loop-i
invariant-loop-i l = first_failing (word_index_allowed l.words l.inputs) l.i (length l.words - l.i) ≡ first_failing (word_index_allowed l.words l.inputs) 0 (length l.words)
