-- What the operation asks of the table, then the digits.
use Rattle.reader_rules.proofs.Kept.{section_is}
use Rattle.adder_rules.proofs.Table.{directory_kept}
use Rattle.adder_rules.proofs.Sum.{operation_stage, operation_passed}
use Rattle.adder_rules.specs.Add.{result_row, asked_outcome}
use Rattle.reader_rules.specs.Table.{alphabet_part, input_part}
use Rattle.digit_rules.specs.Digits.{operation_check}
use Rattle.faults.proofs.Exit.{exit_lent}
use Rattle.faults.specs.Outcome.{author, at_exit}
use Rattle.faults.specs.declared.Refusal.{Refusal}
use Rattle.lists.specs.Overwrite.{overwrite}
use Rattle.faults.specs.Stated.{refused_by}
use Rattle.faults.specs.Passed.{passed}
use Rattle.faults.proofs.Answer.{fault_found}
use Rattle.faults.proofs.Passed.{ok_kept}
use Rattle.ring.specs.declared.Operation.{Operation}
use Rattle.layout_rules.specs.Section.{Section}
use Rattle.std.proofs.Common.{Result}
use Prim.Native.Nat.{ℕ}
use mathlib.Core.List.{List}
use lib.Dec.{lit<}
use mathlib.Core.Path.{◌≡◌, sym, ap, ◌∙◌}
use Rattle.adder.proofs.combine_rows.Goals as goal

pub section-alphabet-requires : goal.section-alphabet-requires
section-alphabet-requires c = (directory_kept c.args.table.now c.requires.table, lit< tt)

pub section-inputs-requires : goal.section-inputs-requires
section-inputs-requires c = (directory_kept c.args.table.now c.requires.table, lit< tt)

-- what the operation asks, as it was asked of the two sections
asked : (op : Operation) (table : List ℕ) {alphabet inputs : Section} {answer : Result Unit Refusal} → alphabet ≡ alphabet_part table → inputs ≡ input_part table → answer ≡ passed (operation_check op alphabet inputs) → answer ≡ passed (operation_check op (alphabet_part table) (input_part table))
asked op table first second is = is ∙ (λ i. passed (operation_check op (first i) (second i)))

pub returns-in-Err : goal.returns-in-Err
returns-in-Err c =
    let a = c.args in
    let told = c.degree_in-degree.ensures in
    let found = asked a.operation a.table.now (section_is a.table.now _ _ 1 told c.section-alphabet.ensures) (section_is a.table.now _ _ 2 told c.section-inputs.ensures) c.in-Err.ensures in
    let is = fault_found author _ _ c.by_author.result found (ap refused_by c.by_author.ensures) ∙ operation_stage a.operation a.table.now a.first.now a.second.now in
    record { outcome = is; out = exit_lent (asked_outcome a.operation a.table.now a.first.now a.second.now) _ _ _ a.out.now _ is }

pub write_digits-requires : goal.write_digits-requires
write_digits-requires c =
    let a = c.args in
    let told = c.degree_in-degree.ensures in
    let found = asked a.operation a.table.now (section_is a.table.now _ _ 1 told c.section-alphabet.ensures) (section_is a.table.now _ _ 2 told c.section-inputs.ensures) c.in_default.ensures in
    record { table = c.requires.table; rows = c.requires.rows; asked = ok_kept _ (sym found); places = c.requires.places }

pub returns : goal.returns
returns c =
    let a = c.args in
    let told = c.degree_in-degree.ensures in
    let found = asked a.operation a.table.now (section_is a.table.now _ _ 1 told c.section-alphabet.ensures) (section_is a.table.now _ _ 2 told c.section-inputs.ensures) c.in_default.ensures in
    let same = operation_passed a.operation a.table.now a.first.now a.second.now (ok_kept _ (sym found)) in
    let written = overwrite a.out.now 0 (result_row a.operation a.table.now a.first.now a.second.now) in
    record { outcome = c.write_digits.ensures.outcome ∙ same; out = c.write_digits.ensures.out ∙ ap (λ o. at_exit o a.out.now written) same }
