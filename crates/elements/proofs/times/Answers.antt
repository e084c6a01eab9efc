-- Row i's product is part i.
use mathlib.Core.Path.{refl, sym, ap, ◌∙◌}
use mathlib.Core.List.{[]}
use Prim.Native.Nat.{ℕ}
use native.Mathlib.Nat.{le_antisymm}
use native.Mathlib.Omega.{arith}
use lib.ListN.{get_or, take}
use borrow.Author.Rules.{rules}
use Rattle.lists.specs.Span.{span}
use Rattle.ring.specs.Matrix.{dot}
use Rattle.ring.specs.Padded.{padded}
use Rattle.ring.proofs.Parts.{within_row}
use Rattle.ring.proofs.Padded.{padded_stored, padded_times_rows}
use Rattle.elements.proofs.times.Goals as goal

pub loop-i-init : goal.loop-i-init
unfolding padded span
loop-i-init g c = refl

pub dot-requires : goal.dot-requires
dot-requires g c = (c.requires.0, within_row _ c.args.base c.requires.1 c.loop-i.i, c.requires.2)

pub loop-i-preserved : goal.loop-i-preserved
loop-i-preserved g c =
    padded_stored (λ i. dot (take g.row.N (get_or c.args.base i [])) c.args.x) c.loop-i.i c.loop-i.all _ c.loop-i.invariant (omega arith) (search rules) c.dot.ensures.product

pub returns : goal.returns
returns g c =
    c.loop-i.invariant
    ∙ ap (λ (n : ℕ). padded (span (λ i. dot (take g.row.N (get_or c.args.base i [])) c.args.x) 0 n)) (le_antisymm {n = c.loop-i.i} {m = g.row.N} (omega arith) (omega arith))
    ∙ sym (padded_times_rows g.row.N c.args.base c.args.x c.requires.0 (search rules))
