-- Each test of rule 9 in turn; a leaf that passes all is inside, or is the last and ends the section.
use native.Mathlib.Omega.{arith}
use Rattle.layout_rules.specs.Section.{of_degree}
use Rattle.leaf_rules.proofs.Leaf.{leaves_most}
use Rattle.prefix_rules.proofs.Place.{leaf_empty, leaf_long, leaf_elsewhere, leaf_past, leaf_inner, leaf_last}
use Rattle.prefix_scan.proofs.leaf_allowed.Goals as goal

pub returns-then-length-lt1 : goal.returns-then-length-lt1
returns-then-length-lt1 c = leaf_empty _ _ _ _ _ c.word_start-start.ensures.start c.word_length-length.ensures.size c.if-length-lt1.true

pub returns-then-length-gt-LONGEST : goal.returns-then-length-gt-LONGEST
returns-then-length-gt-LONGEST c = leaf_long _ _ _ _ _ c.word_start-start.ensures.start c.word_length-length.ensures.size c.if-length-lt1.false c.if-length-gt-LONGEST.true

pub returns-then-start-expected_start : goal.returns-then-start-expected_start
returns-then-start-expected_start c = leaf_elsewhere _ _ _ _ _ c.word_start-start.ensures.start c.word_length-length.ensures.size c.if-length-lt1.false c.if-length-gt-LONGEST.false _ c.expected_start.ensures c.if-start-expected_start.true

pub returns-then-all-start : goal.returns-then-all-start
returns-then-all-start c = leaf_past _ _ _ _ _ c.word_start-start.ensures.start c.word_length-length.ensures.size c.if-length-lt1.false c.if-length-gt-LONGEST.false _ c.expected_start.ensures c.if-start-expected_start.false c.if-all-start.true

pub overflow_add-leaf : goal.overflow_add-leaf
overflow_add-leaf c = let s = c in omega (arith, s.requires, leaves_most (of_degree s.args.degree s.args.leaves.now))

pub returns-then-leaf-leaf_count : goal.returns-then-leaf-leaf_count
returns-then-leaf-leaf_count c =
    let word-start = c.word_start-start in
    let word-length = c.word_length-length in
    let if1 = c.if-length-lt1 in
    let if2 = c.if-length-gt-LONGEST in
    let expected-start = c.expected_start in
    leaf_inner _ _ _ _ _ word-start.ensures.start word-length.ensures.size if1.false if2.false _ expected-start.ensures c.if-start-expected_start.false c.if-all-start.false
    (omega arith)

pub returns : goal.returns
returns c =
    let word-start = c.word_start-start in
    let word-length = c.word_length-length in
    let if1 = c.if-length-lt1 in
    let if2 = c.if-length-gt-LONGEST in
    let expected-start = c.expected_start in
    leaf_last _ _ _ _ _ word-start.ensures.start word-length.ensures.size if1.false if2.false _ expected-start.ensures c.if-start-expected_start.false c.if-all-start.false
    (omega arith)
