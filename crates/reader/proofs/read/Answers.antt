-- Where nothing is found the facts, else the fault in the author's name.
use mathlib.Core.Path.{sym, ap, ◌∙◌}
use Rattle.faults.specs.Outcome.{author, facts}
use Rattle.faults.specs.Stated.{refused_by}
use Rattle.faults.proofs.Answer.{fault_found, nothing_found}
use Rattle.faults.proofs.Passed.{ok_kept}
use Rattle.reader_rules.proofs.Kept.{table_kept}
use Rattle.reader_rules.specs.Check.{read_outcome}
use Rattle.reader.proofs.read.Goals as goal

pub returns-in-Err : goal.returns-in-Err
unfolding read_outcome
returns-in-Err c = fault_found author _ _ _ c.in-Err.ensures (ap refused_by c.by_author.ensures)

pub table_facts-requires : goal.table_facts-requires
table_facts-requires c = (table_kept c.args.file.now (ok_kept _ (sym c.in_default.ensures))).0

pub returns : goal.returns
unfolding read_outcome
returns c = ap facts c.table_facts.ensures ∙ nothing_found author _ _ c.in_default.ensures
