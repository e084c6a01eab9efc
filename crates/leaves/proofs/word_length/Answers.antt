-- The second number of the record.
use mathlib.Core.Path.{ap, ◌∙◌}
use Prim.Native.Nat.{ℕ, ◌+◌}
use Rattle.layout_rules.specs.Number.{unsigned_at}
use Rattle.leaves.proofs.word_length.Goals as goal

pub returns : goal.returns
returns c = record { size = c.unsigned.ensures.number ∙ ap (λ (n : ℕ). unsigned_at c.args.leaves.now (n + 2)) c.record_start.ensures.start; within = c.unsigned.ensures.within }
