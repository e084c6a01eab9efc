-- The lower byte and then the higher.
use Rattle.mirror_rules.specs.Half.{put_number}
use lib.ListN.{set}
use Prim.Native.Nat.{ℕ, ◌+◌, ◌%◌, ◌/◌}
use mathlib.Core.List.{List}
use mathlib.Core.Path.{ap, ◌∙◌}
use Rattle.mirror.proofs.put_number.Goals as goal

pub returns : goal.returns
unfolding put_number
returns c = c.store-2.ensures ∙ ap (λ (s : List ℕ). set s (c.args.at + 1) (c.args.number / 256 % 256)) c.store.ensures
