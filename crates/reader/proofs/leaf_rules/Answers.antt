-- The stage on the parts that the sections are, with the count of input digits.
use Rattle.layout_rules.specs.Section.{record_count}
use Rattle.reader_rules.proofs.Kept.{layout_kept, section_is}
use Rattle.reader_rules.specs.Check.{leaf_check_of}
use Rattle.prefix_rules.specs.Check.{leaf_check}
use Rattle.faults.specs.Passed.{passed}
use lib.Dec.{lit<}
use mathlib.Core.Path.{ap, ◌∙◌}
use Rattle.reader.proofs.leaf_rules.Goals as goal

pub section-requires : goal.section-requires
section-requires c = ((layout_kept c.args.file.now c.requires).0, lit< tt)

pub section-requires-2 : goal.section-requires-2
section-requires-2 c = ((layout_kept c.args.file.now c.requires).0, lit< tt)

pub section-requires-3 : goal.section-requires-3
section-requires-3 c = ((layout_kept c.args.file.now c.requires).0, lit< tt)

pub returns : goal.returns
unfolding leaf_check_of
returns c =
    let file = c.args.file.now in
    let told = c.degree_in-degree.ensures in
    let inputs = c.record_count-inputs.ensures ∙ ap (record_count 2) (section_is file _ _ 2 told c.section.ensures) in
    c.prefix_code.ensures ∙ (λ i. passed (leaf_check (section_is file _ _ 3 told c.section-2.ensures i) (c.section-3.ensures i) (inputs i)))
