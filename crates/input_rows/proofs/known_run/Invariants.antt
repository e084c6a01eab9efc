-- The places passed hold what is known of their pairs.
use Rattle.input_rows.specs.Known.{KnownRun}
use Rattle.rows.specs.ChangedBy.{changed_by}
use Rattle.input_rows.proofs.known_run.Given as goal

abbrev pub invariant-loop-at : goal.invariant-loop-at
invariant-loop-at l = KnownRun l.known (changed_by l.change 0 l.first) (changed_by l.change 1 l.second) l.place l.initial.row l.at l.row
