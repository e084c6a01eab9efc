-- After k digits the first k are written.
use Rattle.mirror_rules.specs.Half.{put_digits}
use mathlib.Core.Path.{◌≡◌}
use Rattle.mirror.proofs.put_digits.Given as goal

abbrev pub invariant-loop-k : goal.invariant-loop-k
invariant-loop-k l = l.out ≡ put_digits l.half l.at l.initial.out l.k
