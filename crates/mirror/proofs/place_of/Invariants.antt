-- After k leaves both counts are those of k leaves, two for a leaf at the most.
use Rattle.mirror_rules.specs.Half.{leaf_place, word_place}
use Prim.Native.Nat.{◌*◌, ◌≤◌}
use mathlib.Core.Path.{◌≡◌}
use Rattle.mirror.proofs.place_of.Given as goal

abbrev pub invariant-loop-k : goal.invariant-loop-k
invariant-loop-k l = (l.leaf ≡ leaf_place l.shape.positive l.shape.width l.words l.lengths l.limit l.k) × (l.word ≡ word_place l.shape.positive l.shape.width l.words l.lengths l.limit l.k) × (l.leaf ≤ 2 * l.k) × (l.word ≤ 512 * l.k)
