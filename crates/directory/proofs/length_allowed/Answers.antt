-- Whole records, not too few, not too many, in this order.
use mathlib.Core.Path.{◌∙◌}
use Prim.Native.Nat.{◌*◌, ◌<◌}
use native.Mathlib.Omega.{arith}
use borrow.Author.Tests.{lt-leb, ne_eqb}
use Rattle.layout_rules.proofs.Length.{length_uneven, length_low, length_high}
use Rattle.directory.proofs.length_allowed.Goals.{then-n-size-eq0, else-n-size-eq0}
use Rattle.directory.proofs.length_allowed.Goals as goal

pub returns-then-least-n : goal.returns-then-least-n
returns-then-least-n c =
    let kept = c.if-least-n.true in
    length_high _ _ _ _ c.size_of_record-size.ensures _ _ c.least_records.ensures c.most_records.ensures kept.0 kept.1

pub returns-else-least-n : goal.returns-else-least-n
returns-else-least-n c =
    let failed = c.if-least-n.either in
    elim c.if-n-size-eq0.branch [
      | then-n-size-eq0 w ↦
          let even = w.if-n-size-eq0.true in
          let low : c.args.n < c.least_records.result * c.size_of_record-size.result = omega (arith, failed, even) in
          w.t-9-is ∙ lt-leb _ _ low ∙ length_low _ _ _ _ c.size_of_record-size.ensures _ c.least_records.ensures even low
      | else-n-size-eq0 w ↦
          let uneven = w.if-n-size-eq0.false in
          w.t-9-is ∙ ne_eqb _ _ uneven ∙ length_uneven _ _ _ _ c.size_of_record-size.ensures uneven
    ]
