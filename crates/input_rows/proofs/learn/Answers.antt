-- What stands in `known` stays right with one pair more, in a sum with two.
use mathlib.Core.Path.{◌∙◌}
use native.Mathlib.Omega.{arith}
use Rattle.layout_rules.specs.Section.{of_degree}
use Rattle.place_rules.proofs.Place.{pair_index_high}
use Rattle.input_rows.proofs.Known.{known_more, either_order}
use Rattle.input_rows.proofs.learn.Goals as goal

pub overflow_cast-index : goal.overflow_cast-index
overflow_cast-index c =
    let a = c.args in
    omega (arith, c.pair_index-index.ensures, c.requires.sizes.1, pair_index_high a.operation (of_degree a.degree a.alphabet.now) (of_degree a.degree a.inputs.now) a.upper a.lower)

pub returns-in-Plus : goal.returns-in-Plus
returns-in-Plus c =
    let a = c.args in
    let is = c.pair_index-index.ensures in
    let more = known_more a.operation (of_degree a.degree a.alphabet.now) (of_degree a.degree a.inputs.now) in
    let once = more a.known.now a.upper a.lower c.pair_index-index.result c.requires.known (omega (arith, c.requires.sizes.0, c.requires.indexes.0)) (omega (arith, c.requires.sizes.0, c.requires.indexes.1)) is in
    record { index = is; known = more _ a.lower a.upper c.pair_index-index.result once (omega (arith, c.requires.sizes.0, c.requires.indexes.1)) (omega (arith, c.requires.sizes.0, c.requires.indexes.0)) (is ∙ either_order a.operation (of_degree a.degree a.alphabet.now) (of_degree a.degree a.inputs.now) a.upper a.lower c.in-Plus.is) }

pub returns-in-Minus : goal.returns-in-Minus
returns-in-Minus c =
    let a = c.args in
    record { index = c.pair_index-index.ensures; known = known_more a.operation (of_degree a.degree a.alphabet.now) (of_degree a.degree a.inputs.now) a.known.now a.upper a.lower c.pair_index-index.result c.requires.known (omega (arith, c.requires.sizes.0, c.requires.indexes.0)) (omega (arith, c.requires.sizes.0, c.requires.indexes.1)) c.pair_index-index.ensures }
