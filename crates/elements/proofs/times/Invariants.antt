-- The first rows' products are in place, and zero behind them.
use mathlib.Core.Path.{◌≡◌}
use mathlib.Core.List.{[]}
use lib.ListN.{get_or, take}
use Rattle.lists.specs.Span.{span}
use Rattle.ring.specs.Matrix.{dot}
use Rattle.ring.specs.Padded.{padded}
use Rattle.elements.proofs.times.Given as goal

abbrev pub invariant-loop-i : goal.invariant-loop-i
invariant-loop-i g l = l.all ≡ padded (span (λ i. dot (take g.row.N (get_or l.base i [])) l.x) 0 l.i)
