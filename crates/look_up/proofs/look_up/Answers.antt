-- All leaves are searched; the one found is given back with its length.
use Rattle.layout_rules.specs.Section.{of_degree}
use Rattle.look_up.proofs.Search.{with_length_found}
use Rattle.look_up.proofs.look_up.Goals as goal

pub returns-clause-leaf : goal.returns-clause-leaf
returns-clause-leaf c =
    let a = c.args in
    (with_length_found (of_degree a.degree a.leaves.now) a.words.now _ _ _ _ c.search_part-leaf.ensures c.with_length.ensures.leaf c.with_length.ensures.length).0
