-- Five sections and the depth, field by field.
use Rattle.reader_rules.specs.Table.{word_part}
use Rattle.reader_rules.specs.TableFacts.{table_facts}
use Rattle.leaf_rules.specs.Leaf.{code_of}
use Rattle.numeration.specs.LeafOf.{depth}
use mathlib.Core.Path.{ap, ◌∙◌}
use Rattle.reader_rules.proofs.Kept.{layout_kept, section_is}
use lib.Dec.{lit<}
use Rattle.reader.proofs.table_facts.Goals as goal

pub section-requires : goal.section-requires
section-requires c = ((layout_kept c.args.file.now c.requires).0, lit< tt)

pub returns : goal.returns
unfolding table_facts
returns c =
    let file = c.args.file.now in
    let words = word_part file in
    let deep = c.depth.ensures words ∙ ap (λ leaves. depth (code_of leaves words)) (section_is file _ _ 3 c.degree_in-degree.ensures c.section.ensures) in
    λ i. record { base = c.section_facts-base.ensures i; alphabet = c.section_facts-alphabet.ensures i; inputs = c.section_facts-inputs.ensures i; leaves = c.section_facts-leaves.ensures i; words = c.section_facts-words.ensures i; depth = deep i }
