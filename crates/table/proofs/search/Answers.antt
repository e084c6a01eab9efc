-- The search over the five sections, each as its part of the file.
use mathlib.Core.Path.{sym, ap, subst, ◌∙◌}
use Prim.Native.Nat.{◌<◌}
use native.Mathlib.Omega.{arith}
use lib.Dec.{lit<}
use Rattle.pairs.proofs.Searched.{searched_same}
use Rattle.reader_rules.proofs.Ready.{ready_passed}
use Rattle.reader_rules.proofs.Kept.{layout_kept, table_kept, sections, section_is}
use Rattle.prefix_rules.specs.Check.{leaf_check}
use Rattle.leaf_rules.specs.Leaf.{leaf_count}
use Rattle.digit_rules.specs.Digits.{BasePart}
use Rattle.digit_rules.specs.Record.{element_count}
use Rattle.table.proofs.search.Goals as goal

pub section-requires : goal.section-requires
section-requires c = ((layout_kept c.args.file.now (table_kept c.args.file.now c.requires).0).0, lit< tt)

pub section-requires-2 : goal.section-requires-2
section-requires-2 c = ((layout_kept c.args.file.now (table_kept c.args.file.now c.requires).0).0, lit< tt)

pub section-requires-3 : goal.section-requires-3
section-requires-3 c = ((layout_kept c.args.file.now (table_kept c.args.file.now c.requires).0).0, lit< tt)

pub section-requires-4 : goal.section-requires-4
section-requires-4 c = ((layout_kept c.args.file.now (table_kept c.args.file.now c.requires).0).0, lit< tt)

pub section-requires-5 : goal.section-requires-5
section-requires-5 c = ((layout_kept c.args.file.now (table_kept c.args.file.now c.requires).0).0, lit< tt)

pub search-requires : goal.search-requires
search-requires c =
    let file = c.args.file.now in
    let told = c.degree_in-degree.ensures in
    let inputs = section_is file _ _ 2 told c.section-3.ensures in
    let leaves = section_is file _ _ 3 told c.section-4.ensures in
    let given = sections file c.requires in record { table = (subst BasePart (sym (section_is file _ _ 0 told c.section.ensures)) given.base, subst (λ x. 0 < element_count x) (sym inputs) given.some_input, (λ i. (leaf_check (leaves i) (c.section-5.ensures i) (element_count (inputs i))).number) ∙ given.leaves); count = omega (arith, ap leaf_count leaves, (ready_passed file c.requires).leaf_count_within.1) }

pub returns : goal.returns
returns c =
    let file = c.args.file.now in
    let told = c.degree_in-degree.ensures in
    searched_same _ _ _ _ _ _ _ _ _ _ c.search.result (section_is file _ _ 0 told c.section.ensures) (section_is file _ _ 1 told c.section-2.ensures) (section_is file _ _ 2 told c.section-3.ensures) (section_is file _ _ 3 told c.section-4.ensures) c.section-5.ensures c.search.ensures
