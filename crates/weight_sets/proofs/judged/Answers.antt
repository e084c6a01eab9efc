-- What is kept was judged for the same first digit and weight, so for the same part; else it is judged now and kept.
use Rattle.layout_rules.specs.Section.{of_degree}
use Rattle.leaf_rules.specs.Given.{word_given}
use lib.ListN.{get_or}
use Rattle.weight_sets.proofs.judged.Goals as goal

pub returns-clause-good : goal.returns-clause-good
returns-clause-good c =
    let a = c.args in
    let alphabet = of_degree a.degree a.alphabet.now in
    let leaves = of_degree a.degree a.leaves.now in
    let inputs = of_degree a.degree a.inputs.now in
    let first = a.first.now in
    let base = a.base.now in
    let digit = get_or (word_given leaves a.words.now a.upper) 0 0 in
    let set = c.judge_by-set.result in
    let pre = c.requires in c.judge_by-set.ensures
