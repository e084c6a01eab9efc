-- Three checks in turn: the first that finds something is the answer.
use mathlib.Core.Path.{sym, ap, ◌∙◌}
use Rattle.faults.specs.Passed.{passed}
use Rattle.faults.proofs.Passed.{passed_first, passed_next, ok_kept}
use Rattle.layout_rules.specs.Length.{length_check}
use Rattle.reader_rules.proofs.Kept.{directory_room}
use Rattle.reader_rules.specs.Check.{layout_check}
use Rattle.reader.proofs.layout_rules.Goals as goal

pub returns-in_err-directory : goal.returns-in_err-directory
unfolding layout_check
returns-in_err-directory c = passed_first _ _ c.from_residual.ensures.1 c.in_err-directory.ensures

pub section_lengths-requires : goal.section_lengths-requires
section_lengths-requires c = directory_room c.args.file.now (ok_kept _ (sym c.in_ok-directory.ensures))

pub returns-in_err-lengths : goal.returns-in_err-lengths
unfolding layout_check
returns-in_err-lengths c =
    passed_first _ _ c.from_residual-in_err-lengths.ensures.1 (c.in_err-lengths.ensures ∙ ap (λ x. passed (length_check x)) c.section_lengths.ensures)
    ∙ passed_next _ _ c.in_ok-directory.ensures

pub limits-requires : goal.limits-requires
limits-requires c = ok_kept _ (sym c.in_ok-directory.ensures)

pub returns : goal.returns
unfolding layout_check
returns c =
    c.limits.ensures
    ∙ passed_next _ _ (c.in_ok-lengths.ensures ∙ ap (λ x. passed (length_check x)) c.section_lengths.ensures)
    ∙ passed_next _ _ c.in_ok-directory.ensures
