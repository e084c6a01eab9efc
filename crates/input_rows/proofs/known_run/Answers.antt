use Rattle.input_rows.proofs.Known.{run_start, run_next}
use Rattle.input_rows.specs.Known.{KnownRun}
use Rattle.rows.specs.ChangedBy.{changed_by}
use native.Mathlib.Omega.{arith}
use mathlib.Core.Path.{◌≡◌, refl, subst}
use Rattle.input_rows.proofs.known_run.Goals as goal

pub loop-at-init : goal.loop-at-init
loop-at-init c =
    let a = c.args in
    run_start a.known.now (changed_by a.change 0 a.first.now) (changed_by a.change 1 a.second.now) a.place a.row.now

pub pair_at-requires : goal.pair_at-requires
pair_at-requires c = (c.requires.2 c.loop-at.at c.loop-at-test.true, c.requires.3 c.loop-at.at c.loop-at-test.true)

pub bounds-known-pair_at : goal.bounds-known-pair_at
bounds-known-pair_at c = omega (arith, c.pair_at.ensures, c.requires.2 c.loop-at.at c.loop-at-test.true, c.requires.3 c.loop-at.at c.loop-at-test.true)

pub returns-then-index : goal.returns-then-index
returns-then-index c = record { place = (omega arith, omega arith); row = c.loop-at.invariant }

pub loop-at-preserved : goal.loop-at-preserved
loop-at-preserved c =
    let a = c.args in
    run_next a.known.now (changed_by a.change 0 a.first.now) (changed_by a.change 1 a.second.now) a.place a.row.now c.loop-at.at _ c.pair_at.result c.loop-at.row (omega arith) (omega (arith, c.requires.1, c.loop-at-test.true)) c.loop-at.invariant c.pair_at.ensures refl c.if-index.false

pub returns : goal.returns
returns c =
    let a = c.args in
    let end : c.loop-at.at ≡ a.end = omega (arith, c.requires.0) in
    record { place = (c.requires.0, omega arith); row = subst (λ n. KnownRun a.known.now (changed_by a.change 0 a.first.now) (changed_by a.change 1 a.second.now) a.place a.row.now n c.loop-at.row) end c.loop-at.invariant }
