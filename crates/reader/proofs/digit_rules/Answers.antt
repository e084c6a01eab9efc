-- The stage on the parts that the sections are.
use Rattle.reader_rules.proofs.Kept.{layout_kept, section_is}
use Rattle.reader_rules.specs.Check.{digit_check_of}
use Rattle.digit_rules.proofs.Passed.{base_ready}
use Rattle.digit_rules.specs.Digits.{digit_check, BasePart}
use Rattle.faults.specs.Passed.{passed}
use lib.Dec.{lit<}
use mathlib.Core.Path.{sym, subst, ◌∙◌}
use Rattle.reader.proofs.digit_rules.Goals as goal

pub section-requires : goal.section-requires
section-requires c = ((layout_kept c.args.file.now c.requires).0, lit< tt)

pub section-requires-2 : goal.section-requires-2
section-requires-2 c = ((layout_kept c.args.file.now c.requires).0, lit< tt)

pub section-requires-3 : goal.section-requires-3
section-requires-3 c = ((layout_kept c.args.file.now c.requires).0, lit< tt)

pub digits-requires : goal.digits-requires
digits-requires c =
    let s = c in
    let file = s.args.file.now in
    let kept = layout_kept file s.requires in
    subst BasePart (sym (section_is file _ _ 0 c.degree_in-degree.ensures c.section.ensures)) (base_ready file kept.0 kept.1 kept.2)

pub returns : goal.returns
unfolding digit_check_of
returns c =
    let file = c.args.file.now in
    let told = c.degree_in-degree.ensures in
    c.digits.ensures ∙ (λ i. passed (digit_check (section_is file _ _ 0 told c.section.ensures i) (section_is file _ _ 1 told c.section-2.ensures i) (section_is file _ _ 2 told c.section-3.ensures i)))
