-- The table's fault by the reader is passed on; else what is shown.
use mathlib.Core.Path.{sym, ap, ◌∙◌}
use Rattle.bad_row_rules.proofs.Shows.{passed_shows, lent_kept, lent_written}
use Rattle.bad_row_rules.specs.BadRow.{bad_row_outcome}
use Rattle.bad_row_rules.specs.Shows.{Shows}
use Rattle.reader_rules.proofs.Answer.{found_facts, read_fault}
use Rattle.bad_row.specs.Answer.{shows_of}
use Rattle.faults.proofs.Answer.{exit_states}
use Rattle.faults.specs.Outcome.{facts}
use Rattle.bad_row.proofs.bad_row.Goals as goal

pub returns-in_err-read : goal.returns-in_err-read
unfolding bad_row_outcome
returns-in_err-read c =
    let table = c.args.table.now in
    let is = read_fault Shows table _ _ _ _ c.in_err-read.ensures in
    record { answer = exit_states shows_of _ _ c.from_residual.ensures.1 ∙ is; string = lent_kept table c.args.string.now _ _ _ (sym is) }

pub show-requires : goal.show-requires
show-requires c = (found_facts c.args.table.now _ c.in_ok-read.ensures).passes

pub returns : goal.returns
returns c =
    let table = c.args.table.now in
    let given = sym (passed_shows table (found_facts table _ c.in_ok-read.ensures).passes) in
    record { answer = ap facts c.show.ensures.answer ∙ given; string = c.show.ensures.string ∙ lent_written table c.args.string.now (sym given) }
