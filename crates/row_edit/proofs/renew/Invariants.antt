-- After k bytes the first k are the new digits, and the count is of those that differ.
use Rattle.edit_rules.specs.Count.{differing}
use Rattle.lists.specs.Overwrite.{overwrite}
use lib.ListN.{length, take}
use Prim.Native.Nat.{◌+◌, ◌-◌, ◌≤◌}
use mathlib.Core.Path.{◌≡◌}
use Rattle.row_edit.proofs.renew.Given as goal

abbrev pub invariant-loop-k : goal.invariant-loop-k
invariant-loop-k l = (l.part ≡ overwrite l.initial.part 0 (take l.k l.digits)) × (l.count ≤ l.k) × (l.count + differing l.initial.part l.digits l.k (length l.initial.part - l.k) ≡ differing l.initial.part l.digits 0 (length l.initial.part))
