-- After i digits the first i are written.
use Rattle.mirror_rules.specs.Half.{put_word}
use mathlib.Core.Path.{◌≡◌}
use Rattle.mirror.proofs.put_word.Given as goal

abbrev pub invariant-loop-i : goal.invariant-loop-i
invariant-loop-i l = l.out ≡ put_word l.positive l.width l.words l.mirrored l.k l.initial.out l.at l.i
