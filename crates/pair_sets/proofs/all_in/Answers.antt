use Rattle.layout_rules.specs.Section.{of_degree}
use Rattle.leaf_rules.specs.Leaf.{leaf_count, code_of}
use Rattle.lists.specs.Count.{total}
use Rattle.numeration.specs.PairCount.{pairs_below}
use Rattle.numeration.proofs.PairCount.{pairs_next, pairs_within}
use Rattle.leaf_rules.specs.Given.{weight_given}
use Rattle.digit_rules.specs.Record.{element_count}
use Rattle.weight_sets.proofs.Weights.{zeros_none}
use Rattle.pair_sets.proofs.Pass.{all_next, none_judged}
use Rattle.runs.proofs.Keys.{first_digit, ready_words}
use Rattle.table_rules.proofs.Fitting.{reads, first_input}
use Rattle.prefix_rules.proofs.Formed.{formed}
use mathlib.Core.Path.{◌≡◌, refl, sym, ap, ◌∙◌}
use Prim.Native.Nat.{ℕ, ◌+◌, ◌/◌, ◌<◌, ◌≤◌}
use native.Mathlib.Omega.{arith}
use lib.ListN.{get_or}
use Rattle.pair_sets.proofs.all_in.Goals as goal

pub returns-then-not-slot_digits : goal.returns-then-not-slot_digits
returns-then-not-slot_digits c = none_judged _ _ _ _ _

pub loop-upper-init : goal.loop-upper-init
unfolding pairs_below total
loop-upper-init c = (omega arith, refl, λ u h. absurd (omega arith), λ i d e. absurd (omega (arith, e, zeros_none 64 i)))

pub fitting-run-requires : goal.fitting-run-requires
fitting-run-requires c =
    let a = c.args in
    let leaves = of_degree a.degree a.leaves.now in
    let inputs = of_degree a.degree a.inputs.now in
    let words = a.words.now in
    let pre = c.requires in
    let leaf-count = c.leaf_count-leaf_count in record {
      room = (pre.room.0, pre.room.1, pre.room.2);
      upper = (
        omega (arith, leaf-count.ensures),
        (formed leaves words (element_count inputs) pre.table.1 pre.table.2).some c.loop-upper.upper (omega (arith, leaf-count.ensures)),
        (formed leaves words (element_count inputs) pre.table.1 pre.table.2).short c.loop-upper.upper (omega (arith, leaf-count.ensures)),
        omega (arith, leaf-count.ensures, c.loop-upper.invariant.0),
      );
      weights = (λ k h. omega (arith, (pre.known.1 k h).0, pre.room.3), pre.known.2, λ k h. c.all_weights-all.ensures (get_or a.numbers.now k 0) (pre.known.1 k h).0);
    }

pub overflow_add-mark : goal.overflow_add-mark
overflow_add-mark c = omega (arith, c.first_digit-mark.ensures.within)

pub returns-then-set-known : goal.returns-then-set-known
returns-then-set-known c =
    let loop = c.loop-upper in
    record { some_leaves = omega (arith, c.leaf_count-leaf_count.ensures); all_pass = loop.invariant.2; pairs_are = loop.invariant.1 }

pub overflow_add-pairs : goal.overflow_add-pairs
overflow_add-pairs c =
    let a = c.args in
    let table = of_degree a.degree a.leaves.now in
    let loop = c.loop-upper in
    let room = c.requires.room.5 in
    let within = pairs_within (code_of table a.words.now) 4096 loop.upper (omega (arith, c.leaf_count-leaf_count.ensures, room)) room in
    omega (arith, loop.invariant.1, c.fitting-run.ensures.end.1, room, within)

pub loop-upper-preserved : goal.loop-upper-preserved
loop-upper-preserved c =
    let a = c.args in
    let leaves = of_degree a.degree a.leaves.now in
    let inputs = of_degree a.degree a.inputs.now in
    let words = a.words.now in
    let pre = c.requires in
    let leaf-count = c.leaf_count-leaf_count in
    let loop = c.loop-upper in
    let fitting = c.fitting-run in
    let there : loop.upper + 1 ≤ leaf-count.result = omega (arith, c.loop-upper-test.true) in
    let is = formed leaves words (element_count inputs) pre.table.1 pre.table.2 in
    let ready = ready_words leaves words (element_count inputs) is (λ i. omega (arith, c.type_inv.words i)) in
    let counted = fitting.ensures.count words (element_count inputs) pre.table.1 is ready pre.known.0 in (
      omega (arith, fitting.ensures.end.0, leaf-count.ensures),
      omega (arith, loop.invariant.1, counted, pairs_next (code_of leaves words) loop.upper),
      all_next leaves words (element_count inputs) pre.table.1 is a.base.now inputs (of_degree a.degree a.alphabet.now) a.numbers.now a.first.now a.count
          pre.known.1 loop.upper (omega (arith, leaf-count.ensures, there)) fitting.result.set c.judged-known.result
          (fitting.ensures.set words ready pre.known.0)
          (omega (arith, c.if-set-known.false)) c.judged-known.ensures.good loop.invariant.2,
      c.judged-known.ensures.kept,
    )

pub returns : goal.returns
returns c =
    let loop = c.loop-upper in
    let counted = c.leaf_count-leaf_count.ensures in
    let end : loop.upper ≡ c.leaf_count-leaf_count.result = omega arith in
    record { some_leaves = omega (arith, counted); all_pass = λ u h. loop.invariant.2 u (omega (arith, h, end)); pairs_are = loop.invariant.1 ∙ ap (pairs_below (code_of (of_degree c.args.degree c.args.leaves.now) c.args.words.now)) end }

pub judged-known-requires : goal.judged-known-requires
judged-known-requires c =
    let a = c.args in
    let leaves = of_degree a.degree a.leaves.now in
    let inputs = of_degree a.degree a.inputs.now in
    let words = a.words.now in
    let pre = c.requires in
    let slot-digits = c.slot_digits in
    let if1 = c.if-not-slot_digits in
    let leaf-count = c.leaf_count-leaf_count in
    let loop = c.loop-upper in
    let is = formed leaves words (element_count inputs) pre.table.1 pre.table.2 in
    let there : loop.upper < leaf_count leaves = omega (arith, leaf-count.ensures) in
    let ready = ready_words leaves words (element_count inputs) is (λ i. omega (arith, c.type_inv.words i)) in
    let first = c.first_digit-mark in
    let marked = ap (λ (x : ℕ). x + 1) (first.ensures.digit ∙ ap (λ (x : ℕ). x / 72057594037927936) (pre.known.0 loop.upper there) ∙ first_digit leaves words ready loop.upper there ∙ sym (reads leaves words (element_count inputs) pre.table.1 is loop.upper 0 there (is.some loop.upper there))) in
    let number = c.from-number in record {
      part = (
        pre.table.0,
        slot-digits.ensures if1.false,
        first_input leaves words (element_count inputs) pre.table.1 (formed leaves words (element_count inputs) pre.table.1 pre.table.2) loop.upper (omega (arith, leaf-count.ensures)),
      );
      number = (
        omega (arith, number.ensures, (pre.known.1 loop.upper (omega (arith, leaf-count.ensures))).0, pre.room.3),
        pre.room.3,
        pre.room.4,
        ap (λ (n : ℕ). weight_given leaves (get_or a.first.now n 0)) number.ensures ∙ (pre.known.1 loop.upper (omega (arith, leaf-count.ensures))).1,
        marked,
      );
      kept = loop.invariant.3;
    }
