use mathlib.Core.Path.{◌≡◌, sym, ap, subst, ◌∙◌}
use Prim.Native.Nat.{ℕ, ◌+◌, ◌^◌, ◌<◌}
use native.Mathlib.Omega.{arith}
use borrow.Author.Count.{below_more}
use Rattle.ring.specs.Degree.{part_count}
use Rattle.lists.specs.Scan.{first_failing}
use Rattle.ring.specs.Tests.{RowsWithin}
use Rattle.layout_rules.specs.Section.{Section, of_degree}
use Rattle.digit_rules.specs.Record.{record_at}
use Rattle.digit_rules.proofs.Base.{base_within}
use Rattle.numeration.specs.Elements.{elements}
use Rattle.numeration.specs.PairTests.{pair_passes}
use Rattle.digit_rules.specs.BaseMatrix.{base_matrix}
use Rattle.ring.specs.declared.Degree.{Degree}
use lib.IntN.{ℤ}
use mathlib.Core.List.{List}
use Rattle.leaf_rules.specs.Leaf.{leaf_count, code_of}
use Rattle.table_rules.specs.Pairs.{in_alphabet, bad_lower}
use Rattle.pairs.proofs.Quick.{uppers}
use Rattle.table_rules.proofs.Bad.{upper_passes_lem, pair_found, pair_none}
use Rattle.numeration.specs.PairCount.{pairs_below, pair_count}
use Rattle.numeration.proofs.PairCount.{pairs_next, pairs_within}
use Rattle.pairs.proofs.bad_pair.Goals.{then-known, else-known}
use Rattle.pairs.proofs.bad_pair.Goals as goal

-- the search of an upper leaf, over the base's matrix as it was read
at_base : (d : Degree) (base leaves : List ℕ) (alphabet inputs : Section) (words : List ℕ) (u n : ℕ) (matrix : List (List ℤ)) → matrix ≡ base_matrix (of_degree d base) → n ≡ first_failing (pair_passes (elements (part_count d) matrix) (record_at inputs) (code_of (of_degree d leaves) words) (in_alphabet alphabet) u) 0 (leaf_count (of_degree d leaves)) → n ≡ bad_lower (of_degree d base) alphabet inputs (of_degree d leaves) words u
unfolding bad_lower
at_base d base leaves alphabet inputs words u n matrix is found =
    found ∙ ap (λ b. first_failing (pair_passes (elements (part_count d) b) (record_at inputs) (code_of (of_degree d leaves) words) (in_alphabet alphabet) u) 0 (leaf_count (of_degree d leaves))) is

pub base_of-matrix-requires : goal.base_of-matrix-requires
base_of-matrix-requires c = c.requires.table.0

pub loop-upper-init : goal.loop-upper-init
loop-upper-init c =
    (uppers c.args.degree c.args.base.now c.args.leaves.now (of_degree c.args.degree c.args.alphabet.now) (of_degree c.args.degree c.args.inputs.now) c.args.words.now c.args.passed.uppers c.requires.passed.all_pass, c.requires.passed.pairs_are)

pub bad_lower-requires : goal.bad_lower-requires
bad_lower-requires c =
    let a = c.args in
    let pre = c.requires in
    record {
      table = (subst (RowsWithin (2 ^ 21)) (sym c.base_of-matrix.ensures) (base_within (of_degree a.degree a.base.now) pre.table.0), pre.table.1, pre.table.2);
      upper = omega (arith, c.leaf_count-count.ensures, c.loop-upper-test.true);
      slots = elim c.if-known.branch [ then-known w ↦ rw w.slots-is (c.slot_digits-known.ensures w.if-known.true) | else-known w ↦ rw w.slots-is tt ];
    }

pub returns-in-Err : goal.returns-in-Err
returns-in-Err c =
    let a = c.args in
    let base = of_degree a.degree a.base.now in
    let alphabet = of_degree a.degree a.alphabet.now in
    let inputs = of_degree a.degree a.inputs.now in
    let leaves = of_degree a.degree a.leaves.now in
    let loop = c.loop-upper in
    let bad = c.in-Err.ensures.bad in
    let found = at_base a.degree a.base.now a.leaves.now alphabet inputs a.words.now loop.upper c.in-Err.lower _ c.base_of-matrix.ensures bad.1 in
    let here : loop.upper < leaf_count leaves = omega (arith, c.leaf_count-count.ensures, c.loop-upper-test.true) in
    (here, pair_found base alphabet inputs leaves a.words.now loop.upper c.in-Err.lower here found bad.0 loop.invariant.0)

pub overflow_add-pairs : goal.overflow_add-pairs
overflow_add-pairs c =
    let code = code_of (of_degree c.args.degree c.args.leaves.now) c.args.words.now in
    let loop = c.loop-upper in
    let room = c.requires.count in
    let next = pairs_within code 4096 (loop.upper + 1) (omega (arith, c.leaf_count-count.ensures, c.loop-upper-test.true, room)) room in
    omega (arith, loop.invariant.1, c.in-Ok.ensures.run.0, pairs_next code loop.upper, next)

pub loop-upper-preserved : goal.loop-upper-preserved
loop-upper-preserved c =
    let a = c.args in
    let base = of_degree a.degree a.base.now in
    let alphabet = of_degree a.degree a.alphabet.now in
    let inputs = of_degree a.degree a.inputs.now in
    let leaves = of_degree a.degree a.leaves.now in
    let loop = c.loop-upper in
    let run = c.in-Ok.ensures.run in
    let found = at_base a.degree a.base.now a.leaves.now alphabet inputs a.words.now loop.upper (leaf_count leaves) _ c.base_of-matrix.ensures run.1 in (
      below_more _ _ loop.invariant.0 (upper_passes_lem base alphabet inputs leaves a.words.now loop.upper (omega (arith, found))),
      omega (arith, loop.invariant.1, run.0, pairs_next (code_of leaves a.words.now) loop.upper),
    )

pub returns : goal.returns
unfolding pair_count
returns c =
    let a = c.args in
    let leaves = of_degree a.degree a.leaves.now in
    let loop = c.loop-upper in
    let end : loop.upper ≡ leaf_count leaves = omega (arith, c.leaf_count-count.ensures, c.requires.passed.some_leaves, c.loop-upper-test.false) in (
      loop.invariant.1 ∙ ap (pairs_below (code_of leaves a.words.now)) end,
      pair_none (of_degree a.degree a.base.now) (of_degree a.degree a.alphabet.now) (of_degree a.degree a.inputs.now) leaves a.words.now loop.upper (omega (arith, end)) loop.invariant.0,
    )
