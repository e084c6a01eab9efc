-- The quick look where it passes every leaf, or else the scan.
use mathlib.Core.Path.{ap, ◌∙◌}
use native.Mathlib.Omega.{arith}
use Prim.Native.Nat.{◌≤◌}
use native.Mathlib.Nat.{le_antisymm}
use Rattle.pairs.proofs.Quick.{none_fails}
use Rattle.numeration.specs.PairCount.{pairs_below, pair_count}
use Rattle.leaf_rules.specs.Leaf.{leaf_count, code_of}
use Rattle.layout_rules.specs.Section.{of_degree}
use Rattle.pairs.proofs.search.Goals as goal

pub returns-then-count-passed : goal.returns-then-count-passed
unfolding pair_count
returns-then-count-passed c =
    let a = c.args in
    let leaves = of_degree a.degree a.leaves.now in
    let judged = c.passed-passed.ensures in
    let all : leaf_count leaves ≤ c.passed-passed.result.uppers = omega (arith, c.leaf_count-count.ensures, c.if-count-passed.true) in (
      judged.pairs_are ∙ ap (pairs_below (code_of leaves a.words.now)) (le_antisymm judged.some_leaves all),
      none_fails a.degree a.base.now a.leaves.now (of_degree a.degree a.alphabet.now) (of_degree a.degree a.inputs.now) a.words.now c.passed-passed.result.uppers judged.all_pass all,
    )
