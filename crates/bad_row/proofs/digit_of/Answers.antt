-- The digit of two leaves, from the word and weights that are handed out; it fits 32 bits.
use mathlib.Core.Path.{◌≡◌, sym, ap, subst, ◌∙◌}
use Prim.Native.Nat.{◌<◌, ◌^◌, ◌+◌}
use native.Mathlib.Omega.{arith}
use lib.ListN.{get_or}
use lib.Dec.{lit<}
use Rattle.bad_row.proofs.Table.{first_there, digit_is}
use Rattle.bad_row_rules.proofs.Size.{digit_fits}
use Rattle.reader_rules.proofs.Kept.{layout_kept, table_kept, sections, section_is}
use Rattle.reader_rules.specs.Table.{input_part, leaf_part, word_part, operations_of, leaves_in}
use Rattle.numeration.specs.Pairs.{pair_digit}
use Rattle.numeration.specs.Elements.{elements}
use Rattle.numeration.specs.Conversion.{out_digit}
use Rattle.leaf_rules.specs.Given.{weight_given, word_given}
use Rattle.digit_rules.proofs.Base.{base_within}
use Rattle.digit_rules.specs.Digits.{BasePart}
use Rattle.digit_rules.specs.BaseMatrix.{base_matrix}
use Rattle.digit_rules.specs.Record.{record_at, element_count}
use Rattle.ring.proofs.Element.{within_plus, within_le}
use Rattle.ring.specs.Tests.{Within, RowsWithin}
use Rattle.ring.specs.Padded.{padded_times}
use Rattle.ring.specs.Element.{plus, minus}
use Rattle.ring.specs.Degree.{part_count}
use Rattle.bad_row.proofs.digit_of.Goals as goal

pub section-leaves-requires : goal.section-leaves-requires
section-leaves-requires c = ((layout_kept c.args.table.now (table_kept c.args.table.now c.requires.table).0).0, lit< tt)

pub section-requires : goal.section-requires
section-requires c = ((layout_kept c.args.table.now (table_kept c.args.table.now c.requires.table).0).0, lit< tt)

pub section-requires-2 : goal.section-requires-2
section-requires-2 c = ((layout_kept c.args.table.now (table_kept c.args.table.now c.requires.table).0).0, lit< tt)

pub record_at-requires : goal.record_at-requires
record_at-requires c =
    let index : let s = c in c.from-first.result ≡ get_or (word_given (leaf_part s.args.table.now) (word_part s.args.table.now) s.args.pair.upper) 0 0 = let s = c in let leaves = section_is s.args.table.now _ _ 3 c.degree_in-degree.ensures c.section-leaves.ensures in c.from-first.ensures ∙ c.byte_at.ensures ∙ ap (λ word. get_or word 0 0) (c.word-word.ensures ∙ (λ i. word_given (leaves i) (c.section.ensures i) s.args.pair.upper)) in
    let table = c.args.table.now in
    let inputs = section_is table _ _ 2 c.degree_in-degree.ensures c.section-2.ensures in
    subst (λ x. c.from-first.result < element_count x) (sym inputs) (omega (arith, index, first_there table c.requires.table c.args.pair.upper c.requires.leaves.0))

pub sum-sum-requires : goal.sum-sum-requires
sum-sum-requires c =
    (within_le 32768 (2 ^ 61) _ (omega arith) c.record_at.ensures.within, within_le 32768 (2 ^ 61) _ (omega arith) c.weight.ensures.within)

pub section-requires-3 : goal.section-requires-3
section-requires-3 c = ((layout_kept c.args.table.now (table_kept c.args.table.now c.requires.table).0).0, lit< tt)

pub base_of-base-requires : goal.base_of-base-requires
base_of-base-requires c =
    subst BasePart (sym (section_is c.args.table.now _ _ 0 c.degree_in-degree.ensures c.section-3.ensures)) (sections c.args.table.now c.requires.table).base

pub times_base-product-requires : goal.times_base-product-requires
times_base-product-requires c =
    let table = c.args.table.now in
    (subst (RowsWithin (2 ^ 21)) (sym c.base_of-base.ensures) (base_within _ (subst BasePart (sym (section_is table _ _ 0 c.degree_in-degree.ensures c.section-3.ensures)) (sections table c.requires.table).base)), within_le 32768 (2 ^ 32) _ (omega arith) c.weight-2.ensures.within)

pub difference-requires : goal.difference-requires
difference-requires c =
    let parts = within_plus 32768 32768 _ _ c.record_at.ensures.within c.weight.ensures.within in
    (subst (Within (2 ^ 61)) (sym c.sum-sum.ensures) (within_le (32768 + 32768) (2 ^ 61) _ (omega arith) parts), within_le (2 ^ 55) (2 ^ 61) _ (omega arith) c.times_base-product.ensures.within)

pub shown-requires : goal.shown-requires
unfolding out_digit elements
shown-requires c =
    let index : let s = c in c.from-first.result ≡ get_or (word_given (leaf_part s.args.table.now) (word_part s.args.table.now) s.args.pair.upper) 0 0 = let s = c in let leaves = section_is s.args.table.now _ _ 3 c.degree_in-degree.ensures c.section-leaves.ensures in c.from-first.ensures ∙ c.byte_at.ensures ∙ ap (λ word. get_or word 0 0) (c.word-word.ensures ∙ (λ i. word_given (leaves i) (c.section.ensures i) s.args.pair.upper)) in
    let made : let s = c in c.difference.result ≡ pair_digit (operations_of s.args.table.now) (record_at (input_part s.args.table.now)) (leaves_in s.args.table.now) s.args.pair.upper s.args.pair.lower = let at_wide = c in let s = at_wide in let table = s.args.table.now in let told = at_wide.degree_in-degree.ensures in let leaves = section_is table _ _ 3 told at_wide.section-leaves.ensures in let inputs = section_is table _ _ 2 told c.section-2.ensures in let base = section_is table _ _ 0 told c.section-3.ensures in let matrix = c.base_of-base.ensures ∙ ap base_matrix base in let first = c.record_at.ensures.element ∙ (λ i. record_at (inputs i) (index i)) in let below = c.weight.ensures.weight ∙ ap (λ x. weight_given x s.args.pair.lower) leaves in let own = c.weight-2.ensures.weight ∙ ap (λ x. weight_given x s.args.pair.upper) leaves in let sum = c.sum-sum.ensures ∙ (λ i. plus (first i) (below i)) in let product = c.times_base-product.ensures.product ∙ (λ i. padded_times (part_count (told i)) (matrix i) (own i)) in c.difference.ensures ∙ (λ i. minus (sum i) (product i)) ∙ digit_is table s.requires.table s.args.pair.upper s.args.pair.lower s.requires.leaves.0 s.requires.leaves.1 in
    subst (Within 2147483647) (sym (made)) (digit_fits c.args.table.now c.requires.table c.args.pair.upper c.args.pair.lower c.requires.leaves.0 c.requires.leaves.1)

pub returns : goal.returns
unfolding out_digit elements
returns c =
    let index : let s = c in c.from-first.result ≡ get_or (word_given (leaf_part s.args.table.now) (word_part s.args.table.now) s.args.pair.upper) 0 0 = let s = c in let leaves = section_is s.args.table.now _ _ 3 c.degree_in-degree.ensures c.section-leaves.ensures in c.from-first.ensures ∙ c.byte_at.ensures ∙ ap (λ word. get_or word 0 0) (c.word-word.ensures ∙ (λ i. word_given (leaves i) (c.section.ensures i) s.args.pair.upper)) in
    let made : let s = c in c.difference.result ≡ pair_digit (operations_of s.args.table.now) (record_at (input_part s.args.table.now)) (leaves_in s.args.table.now) s.args.pair.upper s.args.pair.lower = let at_wide = c in let s = at_wide in let table = s.args.table.now in let told = at_wide.degree_in-degree.ensures in let leaves = section_is table _ _ 3 told at_wide.section-leaves.ensures in let inputs = section_is table _ _ 2 told c.section-2.ensures in let base = section_is table _ _ 0 told c.section-3.ensures in let matrix = c.base_of-base.ensures ∙ ap base_matrix base in let first = c.record_at.ensures.element ∙ (λ i. record_at (inputs i) (index i)) in let below = c.weight.ensures.weight ∙ ap (λ x. weight_given x s.args.pair.lower) leaves in let own = c.weight-2.ensures.weight ∙ ap (λ x. weight_given x s.args.pair.upper) leaves in let sum = c.sum-sum.ensures ∙ (λ i. plus (first i) (below i)) in let product = c.times_base-product.ensures.product ∙ (λ i. padded_times (part_count (told i)) (matrix i) (own i)) in c.difference.ensures ∙ (λ i. minus (sum i) (product i)) ∙ digit_is table s.requires.table s.args.pair.upper s.args.pair.lower s.requires.leaves.0 s.requires.leaves.1 in
    c.shown.ensures ∙ made
