-- The value: the table's fault by the reader is passed on; else the row's rules and value.
use mathlib.Core.Path.{sym, ◌∙◌}
use Rattle.faults.proofs.Unless.{unless_none}
use Rattle.faults.specs.Outcome.{author}
use Rattle.midpoint.specs.Midpoint.{parts}
use Rattle.reader_rules.proofs.Answer.{found_facts, read_exit}
use Rattle.reader_rules.specs.Check.{table_check}
use Rattle.value_call_rules.specs.Value.{row_outcome, value_outcome}
use Rattle.value_call.proofs.value.Goals as goal

pub returns-in_err-facts : goal.returns-in_err-facts
unfolding value_outcome
returns-in_err-facts c = read_exit parts c.args.table.now _ _ _ c.from_residual.ensures.1 c.in_err-facts.ensures

pub row_value-requires : goal.row_value-requires
row_value-requires c =
    let known = found_facts c.args.table.now _ c.in_ok-facts.ensures in
    (known.passes, known.size)

pub returns : goal.returns
unfolding value_outcome
returns c =
    let a = c.args in
    c.row_value.ensures ∙ sym (unless_none author (table_check a.table.now) (row_outcome a.table.now a.row.now) (found_facts a.table.now _ c.in_ok-facts.ensures).passes)
