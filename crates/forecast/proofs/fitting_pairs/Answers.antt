-- The pairs of the file's leaves, by their sections as parts of the file.
use mathlib.Core.Path.{ap, ◌∙◌}
use native.Mathlib.Omega.{arith}
use lib.Dec.{lit<}
use Rattle.reader_rules.specs.Table.{input_count}
use Rattle.reader_rules.proofs.Ready.{ready_passed}
use Rattle.reader_rules.proofs.Kept.{layout_kept, table_kept, sections, section_is}
use Rattle.prefix_rules.specs.Check.{leaf_check}
use Rattle.numeration.specs.PairCount.{pair_count}
use Rattle.leaf_rules.specs.Leaf.{leaf_count, code_of}
use Rattle.forecast.proofs.fitting_pairs.Goals as goal

pub section-requires : goal.section-requires
section-requires c = ((layout_kept c.args.table.now (table_kept c.args.table.now c.requires).0).0, lit< tt)

pub section-requires-2 : goal.section-requires-2
section-requires-2 c = ((layout_kept c.args.table.now (table_kept c.args.table.now c.requires).0).0, lit< tt)

pub pair_count-requires : goal.pair_count-requires
pair_count-requires c =
    let table = c.args.table.now in
    let kept = sections table c.requires in
    let leaves = section_is table _ _ 3 c.degree_in-degree.ensures c.section.ensures in
    record { formed = (input_count table, kept.some_input, (λ i. (leaf_check (leaves i) (c.section-2.ensures i) (input_count table)).number) ∙ kept.leaves); count = omega (arith, ap leaf_count leaves, (ready_passed table c.requires).leaf_count_within.1) }

pub returns : goal.returns
returns c =
    let leaves = section_is c.args.table.now _ _ 3 c.degree_in-degree.ensures c.section.ensures in
    c.pair_count.ensures ∙ (λ i. pair_count (code_of (leaves i) (c.section-2.ensures i)))
