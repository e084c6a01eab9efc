-- A guessed leaf that begins the window is the one; else the search says it.
use Rattle.layout_rules.specs.Section.{of_degree}
use Rattle.look_up.proofs.Search.{begins_looked_up, with_length_found}
use Rattle.leaf_rules.specs.Leaf.{code_of}
use native.Mathlib.Omega.{arith}
use Rattle.look_up.proofs.look_up_from.Goals as goal

pub returns-then-begins-clause-leaf : goal.returns-then-begins-clause-leaf
returns-then-begins-clause-leaf c =
    let a = c.args in
    let leaves = of_degree a.degree a.leaves.now in
    let words = a.words.now in
    (with_length_found leaves words _ _ _ _
    (begins_looked_up (code_of leaves words) _ a.guess (omega (arith, c.leaf_count.ensures, c.if-guess-leaf_count.true)) (c.begins.ensures c.if-begins.true))
    c.with_length.ensures.leaf c.with_length.ensures.length).0
