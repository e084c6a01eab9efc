-- Start, end and count as they are read.
use Rattle.reader_rules.specs.TableFacts.{part_facts}
use Rattle.layout_rules.specs.Section.{record_count}
use mathlib.Core.Path.{ap, ◌∙◌}
use Rattle.reader_rules.proofs.Kept.{layout_kept, directory_room, section_is}
use Rattle.reader.proofs.section_facts.Goals as goal

pub section_start-requires : goal.section_start-requires
section_start-requires c = (c.requires.1, directory_room c.args.file.now (layout_kept c.args.file.now c.requires.0).0)

pub section_end-requires : goal.section_end-requires
section_end-requires c = (c.requires.1, directory_room c.args.file.now (layout_kept c.args.file.now c.requires.0).0)

pub section-requires : goal.section-requires
section-requires c = ((layout_kept c.args.file.now c.requires.0).0, c.requires.1)

pub returns : goal.returns
unfolding part_facts
returns c =
    let a = c.args in
    let part = section_is a.file.now _ _ a.number c.degree_in-degree.ensures c.section.ensures in
    let count = c.record_count.ensures ∙ ap (record_count a.number) part in
    λ i. record { start = c.section_start.ensures.start i; end = c.section_end.ensures i; count = count i }
