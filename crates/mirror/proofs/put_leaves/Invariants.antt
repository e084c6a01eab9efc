-- After k leaves the first k and their mirror images are written.
use Rattle.mirror_rules.proofs.Put.{leaves_put}
use mathlib.Core.Path.{◌≡◌}
use Rattle.mirror.proofs.put_leaves.Given as goal

abbrev pub invariant-loop-k : goal.invariant-loop-k
invariant-loop-k l = l.out ≡ leaves_put l.shape.positive l.shape.width l.words l.lengths l.weights l.at.leaves l.at.words l.initial.out l.k
