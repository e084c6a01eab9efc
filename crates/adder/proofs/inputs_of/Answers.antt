-- The sections handed on, each as its part of the file.
use mathlib.Core.Path.{◌∙◌}
use native.Mathlib.Omega.{arith}
use lib.Dec.{lit<}
use Rattle.reader_rules.proofs.Kept.{section_is}
use Rattle.rows.specs.ChangedBy.{changed_by}
use Rattle.place_rules.specs.Place.{input_at}
use Rattle.place_rules.specs.Helpers.{part_row}
use Rattle.adder_rules.proofs.Table.{directory_kept, digits_counted, few_digits, few_inputs}
use Rattle.adder.proofs.inputs_of.Goals as goal

pub section-alphabet-requires : goal.section-alphabet-requires
section-alphabet-requires c = (directory_kept c.args.table.now c.requires.table, lit< tt)

pub section-inputs-requires : goal.section-inputs-requires
section-inputs-requires c = (directory_kept c.args.table.now c.requires.table, lit< tt)

pub input_row-requires : goal.input_row-requires
input_row-requires c =
    let s = c in
    let told = c.degree_in-degree.ensures in
    let file = s.args.table.now in
    let part = s.requires.part in
    let size = digits_counted file s.requires.table _ (section_is file _ _ 1 told c.section-alphabet.ensures) in
    (part.0, part.1, omega (arith, (few_inputs file s.requires.table _ (section_is file _ _ 2 told c.section-inputs.ensures)).1), λ k h. omega (arith, size, part.2 k h), λ k h. omega (arith, size, part.3 k h), few_digits file s.requires.table _ (section_is file _ _ 1 told c.section-alphabet.ensures))

pub returns : goal.returns
returns c =
    let a = c.args in
    let told = c.degree_in-degree.ensures in
    c.input_row.ensures ∙ (λ i. part_row (input_at a.operation (section_is a.table.now _ _ 1 told c.section-alphabet.ensures i) (section_is a.table.now _ _ 2 told c.section-inputs.ensures i) (changed_by a.change 0 a.first.now) (changed_by a.change 1 a.second.now)) a.from a.end)
