use mathlib.Core.Path.{◌≡◌, sym, ap, subst, ◌∙◌}
use mathlib.Core.Bool.{Bool, true, false}
use mathlib.Core.List.{List}
use Prim.Native.Nat.{ℕ, ◌+◌, ◌-◌, ◌<◌, ◌≤◌, min, pred}
use native.Mathlib.Omega.{arith}
use lib.IntN.{ℤ}
use lib.ListN.{length, get_or}
use borrow.Author.Count.{below_more}
use Rattle.ring.specs.Degree.{part_count}
use Rattle.lists.specs.Span.{span}
use Rattle.ring.specs.Element.{plus}
use Rattle.layout_rules.specs.Section.{Section, of_degree}
use Rattle.digit_rules.specs.Record.{record_at, element_count}
use Rattle.numeration.specs.Code.{Code}
use Rattle.numeration.specs.LeafOf.{agree}
use Rattle.numeration.specs.Elements.{elements}
use Rattle.numeration.specs.PairTests.{fits, pair_passes}
use Rattle.numeration.specs.PairCount.{lower_count}
use Rattle.numeration.specs.Runs.{lowest_fit}
use Rattle.leaf_rules.specs.Leaf.{leaf_count, code_of}
use Rattle.leaf_rules.specs.Given.{word_given, weight_given}
use Rattle.leaf_rules.specs.Window.{LookedUp}
use Rattle.prefix_rules.specs.Check.{leaf_check}
use Rattle.prefix_rules.specs.Formed.{LeavesFormed}
use Rattle.prefix_rules.proofs.Formed.{formed}
use Rattle.table_rules.specs.Pairs.{in_alphabet, upper_part}
use Rattle.table_rules.proofs.Fitting.{first_input, lowest_found, lowest_there, run_length, fit_is, pair_is, upto_lowest, ends_unfit, ends_all, ends_bad}
use Rattle.pairs.proofs.bad_lower.Goals as goal

module _ (leaves : Section) (words : List ℕ) (m : ℕ) (input : 0 < m) (passes : (leaf_check leaves words m).number ≡ 0) where
  abbrev code : Code (List ℤ)
  code = code_of leaves words

  well : LeavesFormed leaves words m
  well = formed leaves words m input passes

  module _ (u : ℕ) (hu : u < leaf_count leaves) where
    there : lowest_fit code u < leaf_count leaves
    there = lowest_there leaves words m input well u hu

    -- the leaves from the lowest that fits up to l
    counts : (l start : ℕ) → start ≡ lowest_fit code u → lowest_fit code u ≤ l → l ≤ leaf_count leaves → (l < leaf_count leaves → fits code u l ≡ false) → ((j : ℕ) → j < l → lowest_fit code u ≤ j → fits code u j ≡ true) → l - start ≡ lower_count code u
    counts l start at low high end run = ap (λ (k : ℕ). l - k) at ∙ sym (run_length leaves words m input well u hu l low high end run)

    -- what the comparison of the two words says
    fit_says : (top low : List ℕ) (b : Bool) (l : ℕ) → l < leaf_count leaves → top ≡ word_given leaves words u → low ≡ word_given leaves words l → b ≡ agree (λ k. get_or top (k + 1) 0) (λ k. get_or low k 0) (min (pred (length top)) (length low)) → b ≡ fits code u l
    fit_says top low b l h upper lower is =
        is ∙ (λ i. agree (λ k. get_or (upper i) (k + 1) 0) (λ k. get_or (lower i) k 0) (min (pred (length (upper i))) (length (lower i)))) ∙ fit_is leaves words m input well u hu l h

    -- what the digit of a pair that fits says
    pair_says : (matrix : List (List ℤ)) (inputs alphabet : Section) (part : List ℤ) (b : Bool) (l : ℕ) → l < leaf_count leaves → fits code u l ≡ true → part ≡ upper_part matrix inputs leaves words u → b ≡ in_alphabet alphabet (plus part (weight_given leaves l)) → b ≡ pair_passes (elements (part_count leaves.degree) matrix) (record_at inputs) code (in_alphabet alphabet) u l
    pair_says matrix inputs alphabet part b l h fit own is =
        is ∙ ap (λ p. in_alphabet alphabet (plus p (weight_given leaves l))) own ∙ pair_is leaves words m input well u hu matrix inputs (in_alphabet alphabet) l h fit

    -- what both tests say of a leaf whose word fits
    fitting_says : (matrix : List (List ℤ)) (inputs alphabet : Section) (part : List ℤ) (top low : List ℕ) (fit gives : Bool) (l : ℕ) → l < leaf_count leaves → top ≡ word_given leaves words u → low ≡ word_given leaves words l → fit ≡ agree (λ k. get_or top (k + 1) 0) (λ k. get_or low k 0) (min (pred (length top)) (length low)) → fit ≡ true → part ≡ upper_part matrix inputs leaves words u → gives ≡ in_alphabet alphabet (plus part (weight_given leaves l)) → (fits code u l ≡ true) × (pair_passes (elements (part_count leaves.degree) matrix) (record_at inputs) code (in_alphabet alphabet) u l ≡ gives)
    fitting_says matrix inputs alphabet part top low fit gives l h upper lower is held own digit =
        let fitting = sym (fit_says top low fit l h upper lower is) ∙ held in
        (fitting, sym (pair_says matrix inputs alphabet part gives l h fitting own digit))

pub upper_part_by-part-requires : goal.upper_part_by-part-requires
upper_part_by-part-requires c =
    let a = c.args in
    let leaves = of_degree a.degree a.leaves.now in
    let m = element_count (of_degree a.degree a.inputs.now) in
    (c.requires.table.0, first_input leaves a.words.now m c.requires.table.1 (well leaves a.words.now m c.requires.table.1 c.requires.table.2) a.upper c.requires.upper)

pub loop-lower-init : goal.loop-lower-init
loop-lower-init c =
    let a = c.args in
    let leaves = of_degree a.degree a.leaves.now in
    let words = a.words.now in
    let inputs = of_degree a.degree a.inputs.now in
    let alphabet = of_degree a.degree a.alphabet.now in
    let m = element_count inputs in
    let u = a.upper in
    let found = c.look_up_from-lowest.result.leaf in
    let is = well leaves words m c.requires.table.1 c.requires.table.2 in
    let window = c.tail_window.ensures ∙ ap (λ w. span (λ i. get_or w i 0) 1 8) c.word-top.ensures in
    let lowest = lowest_found leaves words m c.requires.table.1 is u c.requires.upper found (subst (λ w. LookedUp (code_of leaves words) w found) window c.look_up_from-lowest.ensures.leaf) in (
      omega (arith, lowest),
      λ matrix own. subst (λ (l : ℕ). (j : ℕ) → j < l → pair_passes (elements (part_count a.degree) matrix) (record_at inputs) (code_of leaves words) (in_alphabet alphabet) u j ≡ true) (sym lowest) (upto_lowest leaves words m c.requires.table.1 is u c.requires.upper matrix inputs (in_alphabet alphabet)),
      (lowest, λ k upto from. absurd (omega (arith, lowest))),
    )

pub overflow_sub-result : goal.overflow_sub-result
overflow_sub-result c = omega (arith, c.loop-lower.invariant.0, c.loop-lower.invariant.2.0)

pub returns-then-not-fit : goal.returns-then-not-fit
returns-then-not-fit c =
    let a = c.args in
    let leaves = of_degree a.degree a.leaves.now in
    let words = a.words.now in
    let inputs = of_degree a.degree a.inputs.now in
    let m = element_count inputs in
    let pre = c.requires in
    let loop = c.loop-lower in
    let here : loop.lower < leaf_count leaves = omega (arith, c.leaf_count-count.ensures) in
    let unfit = sym (fit_says leaves words m pre.table.1 pre.table.2 a.upper pre.upper _ _ _ loop.lower here c.word-top.ensures c.word.ensures c.fit.ensures) ∙ c.if-not-fit.true in record {
      run = (
        counts leaves words m pre.table.1 pre.table.2 a.upper pre.upper loop.lower _ loop.invariant.2.0 loop.invariant.0 (omega (arith, here)) (λ _. unfit) loop.invariant.2.1,
        ends_unfit leaves words m pre.table.1 (well leaves words m pre.table.1 pre.table.2) a.upper pre.upper a.base.now inputs (in_alphabet (of_degree a.degree a.alphabet.now)) loop.lower loop.invariant.0 here unfit (loop.invariant.1 a.base.now c.upper_part_by-part.ensures.part),
      );
      bad = tt;
    }

pub gives_digit_by-requires : goal.gives_digit_by-requires
gives_digit_by-requires c = (c.requires.slots, c.upper_part_by-part.ensures.within)

pub returns-then-not-gives_digit_by : goal.returns-then-not-gives_digit_by
returns-then-not-gives_digit_by c =
    let a = c.args in
    let leaves = of_degree a.degree a.leaves.now in
    let words = a.words.now in
    let inputs = of_degree a.degree a.inputs.now in
    let alphabet = of_degree a.degree a.alphabet.now in
    let m = element_count inputs in
    let pre = c.requires in
    let loop = c.loop-lower in
    let own = c.upper_part_by-part.ensures.part in
    let here : loop.lower < leaf_count leaves = omega (arith, c.leaf_count-count.ensures) in
    let says = fitting_says leaves words m pre.table.1 pre.table.2 a.upper pre.upper a.base.now inputs alphabet _ _ _ _ _ loop.lower here c.word-top.ensures c.word.ensures c.fit.ensures c.if-not-fit.false own c.gives_digit_by.ensures in
    record { run = tt; bad = (here, ends_bad leaves words m pre.table.1 (well leaves words m pre.table.1 pre.table.2) a.upper pre.upper a.base.now inputs (in_alphabet alphabet) loop.lower here (says.1 ∙ c.if-not-gives_digit_by.true) (loop.invariant.1 a.base.now own)) }

pub loop-lower-preserved : goal.loop-lower-preserved
loop-lower-preserved c =
    let a = c.args in
    let leaves = of_degree a.degree a.leaves.now in
    let inputs = of_degree a.degree a.inputs.now in
    let alphabet = of_degree a.degree a.alphabet.now in
    let pre = c.requires in
    let loop = c.loop-lower in
    let here : loop.lower < leaf_count leaves = omega (arith, c.leaf_count-count.ensures) in
    let says = λ (matrix : List (List ℤ)) (own : c.upper_part_by-part.result ≡ upper_part matrix inputs leaves a.words.now a.upper). fitting_says leaves a.words.now (element_count inputs) pre.table.1 pre.table.2 a.upper pre.upper matrix inputs alphabet _ _ _ _ _ loop.lower here c.word-top.ensures c.word.ensures c.fit.ensures c.if-not-fit.false own c.gives_digit_by.ensures in (
      omega (arith, loop.invariant.0),
      λ matrix own. below_more _ _ (loop.invariant.1 matrix own) ((says matrix own).1 ∙ c.if-not-gives_digit_by.false),
      (loop.invariant.2.0, below_more _ _ loop.invariant.2.1 (λ from. (says a.base.now c.upper_part_by-part.ensures.part).0)),
    )

pub overflow_sub-result-2 : goal.overflow_sub-result-2
overflow_sub-result-2 c =
    let a = c.args in
    let least = there (of_degree a.degree a.leaves.now) a.words.now (element_count (of_degree a.degree a.inputs.now)) c.requires.table.1 c.requires.table.2 a.upper c.requires.upper in
    omega (arith, c.loop-lower.invariant.2.0, least, c.leaf_count-count.ensures)

pub returns : goal.returns
returns c =
    let a = c.args in
    let leaves = of_degree a.degree a.leaves.now in
    let words = a.words.now in
    let inputs = of_degree a.degree a.inputs.now in
    let m = element_count inputs in
    let pre = c.requires in
    let loop = c.loop-lower in
    let counted = c.leaf_count-count.ensures in
    let past : leaf_count leaves ≤ loop.lower = omega (arith, counted, c.loop-lower-test.false) in
    let least = there leaves words m pre.table.1 pre.table.2 a.upper pre.upper in record {
      run = (
        counts leaves words m pre.table.1 pre.table.2 a.upper pre.upper c.leaf_count-count.result _ loop.invariant.2.0 (omega (arith, least, counted)) (omega (arith, counted)) (λ l. absurd (omega (arith, counted, l))) (λ j h. loop.invariant.2.1 j (omega (arith, h, past, counted))),
        ends_all leaves words m pre.table.1 (well leaves words m pre.table.1 pre.table.2) a.upper pre.upper a.base.now inputs (in_alphabet (of_degree a.degree a.alphabet.now)) loop.lower past (loop.invariant.1 a.base.now c.upper_part_by-part.ensures.part),
      );
      bad = tt;
    }
