-- Rules 1 to 13 by the reader, then rule 14 at the upper leaf of the failing pair.
use mathlib.Core.Path.{sym, ap, ◌∙◌}
use native.Mathlib.Omega.{arith}
use Rattle.table_rules.proofs.Bad.{file_broken, file_kept}
use Rattle.table_rules.specs.Check.{pair_check_of, check_facts, check_outcome}
use Rattle.reader_rules.proofs.Answer.{read_facts, read_exit}
use Rattle.reader_rules.specs.TableFacts.{table_facts, part_facts}
use Rattle.reader_rules.specs.Check.{table_check}
use Rattle.faults.proofs.Unless.{unless_found, unless_none}
use Rattle.faults.specs.Unless.{unless}
use Rattle.faults.specs.Outcome.{facts, author}
use Rattle.faults.specs.Check.{refusal}
use Rattle.faults.specs.declared.Refusal.{Refusal}
use Rattle.table.proofs.check.Goals as goal

pub search-requires : goal.search-requires
search-requires c = (read_facts c.args.file.now _ c.in_ok-table.ensures).0

pub returns-in_err-table : goal.returns-in_err-table
unfolding check_outcome
returns-in_err-table c = read_exit (λ f. f) c.args.file.now _ _ _ c.from_residual.ensures.1 c.in_err-table.ensures

pub returns-in-Ok : goal.returns-in-Ok
unfolding check_outcome check_facts table_facts part_facts
returns-in-Ok c =
    let file = c.args.file.now in
    let known = read_facts file _ c.in_ok-table.ensures in
    let t = known.1 in
    let counted = c.in-Ok.ensures.0 in
    let kept = file_kept file _ c.in-Ok.ensures.1 (omega arith) in
    (λ i. facts (record { depth = (t i).depth; leaves = (t i).leaves.count; digits = (t i).alphabet.count; pairs = counted i }))
    ∙ sym (unless_none author (pair_check_of file) (facts (check_facts file)) (ap (λ (r : Refusal). r.number) (sym kept))) ∙ sym (unless_none author (table_check file) _ known.0)

pub returns-in-Err : goal.returns-in-Err
unfolding check_outcome table_facts part_facts
returns-in-Err c =
    let file = c.args.file.now in
    let known = read_facts file _ c.in_ok-table.ensures in
    let pair = c.in-Err.pair in
    let broken = file_broken file pair c.in-Err.ensures.1 (omega (arith, c.in-Err.ensures.0)) in
    sym (unless_found author (refusal 14 pair.upper) (facts (check_facts file)) (λ z. omega (arith, z)))
    ∙ ap (λ (r : Refusal). unless author r (facts (check_facts file))) broken ∙ sym (unless_none author (table_check file) _ known.0)
