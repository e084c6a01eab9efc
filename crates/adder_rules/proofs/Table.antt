-- What a table that passes rules 1 to 13 gives to conversion.
use mathlib.Core.Path.{◌≡◌, ap, subst, sym, ◌∙◌}
use mathlib.Core.List.{List}
use Prim.Native.Nat.{ℕ, ◌<◌, ◌≤◌, ◌^◌}
use lib.IntN.{ℤ}
use Rattle.layout_rules.specs.Section.{Section}
use Rattle.ring.specs.Tests.{RowsWithin}
use Rattle.ring.specs.declared.Operation.{Operation}
use Rattle.layout_rules.specs.Directory.{directory_check}
use Rattle.digit_rules.specs.Record.{element_count}
use Rattle.digit_rules.specs.BaseMatrix.{base_matrix}
use Rattle.digit_rules.specs.Digits.{operation_check}
use Rattle.digit_rules.specs.Formed.{AllListed}
use Rattle.digit_rules.proofs.Formed.{operation_listed}
use Rattle.digit_rules.proofs.Base.{base_within}
use Rattle.numeration.specs.Code.{Inputs}
use Rattle.numeration.specs.Conversion.{window}
use Rattle.numeration.proofs.Windows.{window_below}
use Rattle.reader_rules.specs.Table.{base_part, alphabet_part, input_part, leaf_part, word_part, input_count}
use Rattle.reader_rules.specs.Check.{table_check}
use Rattle.reader_rules.specs.Ready.{Ready}
use Rattle.reader_rules.proofs.Kept.{layout_kept, table_kept}
use Rattle.reader_rules.proofs.Formed.{well_formed}
use Rattle.reader_rules.proofs.Ready.{ready_passed}
use Rattle.place_rules.specs.Helpers.{Begun}
use Rattle.adder_rules.specs.Sum.{digit_count}

module _ (file : List ℕ) (passes : (table_check file).number ≡ 0) where
  pub directory_kept : (directory_check file).number ≡ 0
  directory_kept = (layout_kept file (table_kept file passes).0).0

  is : Ready file
  is = ready_passed file passes

  -- what the operation makes of any two alphabet digits is an input digit, where nothing that it asks is broken
  pub all_listed : (op : Operation) → (operation_check op (alphabet_part file) (input_part file)).number ≡ 0 → AllListed op (alphabet_part file) (input_part file)
  all_listed op = operation_listed op (base_part file) (alphabet_part file) (input_part file) ((well_formed file).1 passes).digits

  -- of the sections as they were handed on
  pub digits_counted : (alphabet : Section) → alphabet ≡ alphabet_part file → digit_count file ≡ element_count alphabet
  digits_counted alphabet e = ap element_count (sym e)

  pub few_digits : (alphabet : Section) → alphabet ≡ alphabet_part file → element_count alphabet ≤ 16
  few_digits alphabet e = subst (λ a. element_count a ≤ 16) (sym e) is.alphabet_count.1

  pub few_inputs : (inputs : Section) → inputs ≡ input_part file → (0 < element_count inputs) × (element_count inputs ≤ 136)
  few_inputs inputs e = subst (λ a. (0 < element_count a) × (element_count a ≤ 136)) (sym e) is.input_count_within

  pub base_small : (matrix : List (List ℤ)) (base : Section) → matrix ≡ base_matrix base → base ≡ base_part file → RowsWithin (2 ^ 21) matrix
  base_small matrix base m e = subst (RowsWithin (2 ^ 21)) (sym (m ∙ ap base_matrix e)) (base_within (base_part file) is.base)

  pub inputs_in : (inputs : Section) (row : List ℕ) → inputs ≡ input_part file → Inputs (input_count file) row → Inputs (element_count inputs) row
  inputs_in inputs row e all = subst (λ a. Inputs (element_count a) row) (sym e) all

  -- every window of a row of input indexes begins with a leaf
  pub windows_begun : (leaves : Section) (words row : List ℕ) → leaves ≡ leaf_part file → words ≡ word_part file → Inputs (input_count file) row → Begun leaves words row
  windows_begun leaves words row l w all =
      subst (λ a. Begun a words row) (sym l) (subst (λ a. Begun (leaf_part file) a row) (sym w) (record {
        sorted = record { short = is.ordered_code.short; ordered = is.ordered_code.ordered };
        begun = λ j. is.code.complete (window row j) (window_below (input_count file) row is.code.some_input all j);
      }))
