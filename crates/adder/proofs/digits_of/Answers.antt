-- The sections handed on, with what a table that passes 1 to 13 gives to conversion.
use mathlib.Core.Path.{sym, ap, subst, ◌∙◌}
use Prim.Native.Nat.{◌+◌, ◌<◌}
use native.Mathlib.Omega.{arith}
use lib.Dec.{lit<}
use Rattle.ring.specs.Degree.{part_count}
use Rattle.reader_rules.proofs.Kept.{section_is}
use Rattle.lists.specs.Overwrite.{overwrite}
use Rattle.lists.specs.Scan.{first_failing}
use Rattle.lists.specs.Span.{span}
use Rattle.layout_rules.specs.Section.{of_degree}
use Rattle.numeration.specs.Elements.{elements}
use Rattle.numeration.specs.ReachOf.{reach_of}
use Rattle.leaf_rules.specs.Leaf.{leaf_count, code_of}
use Rattle.digit_rules.specs.BaseMatrix.{base_matrix}
use Rattle.digit_rules.specs.Digits.{BasePart}
use Rattle.place_rules.specs.Place.{index_at, digit_allowed}
use Rattle.adder_rules.specs.Add.{row_part}
use Rattle.reader_rules.proofs.Ready.{ready_passed}
use Rattle.adder_rules.proofs.Table.{directory_kept, few_digits, few_inputs, base_small, inputs_in, windows_begun}
use Rattle.adder.proofs.digits_of.Goals as goal

pub section-requires : goal.section-requires
section-requires c = (directory_kept c.args.table.now c.requires.table, lit< tt)

pub base_of-base-requires : goal.base_of-base-requires
base_of-base-requires c = subst BasePart (sym (section_is c.args.table.now _ _ 0 c.degree_in-degree.ensures c.section.ensures)) (ready_passed c.args.table.now c.requires.table).base

pub section-alphabet-requires : goal.section-alphabet-requires
section-alphabet-requires c = (directory_kept c.args.table.now c.requires.table, lit< tt)

pub section-inputs-requires : goal.section-inputs-requires
section-inputs-requires c = (directory_kept c.args.table.now c.requires.table, lit< tt)

pub section-leaves-requires : goal.section-leaves-requires
section-leaves-requires c = (directory_kept c.args.table.now c.requires.table, lit< tt)

pub section-words-requires : goal.section-words-requires
section-words-requires c = (directory_kept c.args.table.now c.requires.table, lit< tt)

pub convert-requires : goal.convert-requires
convert-requires c =
    let s = c in
    let told = c.degree_in-degree.ensures in
    let file = s.args.table.now in
    let row = s.args.row.now in
    let given = s.requires.table in
    let all = s.requires.inputs in
    let small = base_small file given _ _ c.base_of-base.ensures (section_is file _ _ 0 told c.section.ensures) in
    let digits = few_digits file given _ (section_is file _ _ 1 told c.section-alphabet.ensures) in
    let inputs = section_is file _ _ 2 told c.section-inputs.ensures in
    let leaves = section_is file _ _ 3 told c.section-leaves.ensures in
    let begun = windows_begun file given _ _ row leaves c.section-words.ensures all in
    let few : leaf_count (of_degree c.degree_in-degree.result c.section-leaves.result.now) < 65536 = omega (arith, ap leaf_count leaves, (ready_passed file given).leaf_count_within.1) in
    (small, omega (arith, digits), (few_inputs file given _ inputs).0, inputs_in file given _ row inputs all, begun, s.requires.room.0, s.requires.room.1, few)

pub returns : goal.returns
unfolding row_part
returns c =
    let a = c.args in
    let file = a.table.now in
    let told = c.degree_in-degree.ensures in
    let base = c.base_of-base.ensures ∙ ap base_matrix (section_is file _ _ 0 told c.section.ensures) in
    let alphabet = section_is file _ _ 1 told c.section-alphabet.ensures in
    let inputs = section_is file _ _ 2 told c.section-inputs.ensures in
    let leaves = section_is file _ _ 3 told c.section-leaves.ensures in
    let words = c.section-words.ensures in
    let done = c.convert in record { count = done.ensures.count ∙ (λ i. first_failing (λ k. digit_allowed (elements (part_count (told i)) (base i)) (alphabet i) (inputs i) (leaves i) (words i) a.row.now (a.from + k)) 0 a.count); reach = done.ensures.reach ∙ (λ i. reach_of (code_of (leaves i) (words i)) a.row.now a.from done.result.count); digits = done.ensures.buffer ∙ (λ i. overwrite a.out.now 0 (span (λ k. index_at (elements (part_count (told i)) (base i)) (alphabet i) (inputs i) (leaves i) (words i) a.row.now (a.from + k)) 0 done.result.count)) }
