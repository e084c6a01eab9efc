-- The part is searched where it must have the leaf, else all leaves are.
use Rattle.layout_rules.specs.Section.{of_degree}
use Rattle.look_up.proofs.Search.{with_length_found}
use Rattle.look_up.specs.Search.{Between}
use Rattle.leaf_rules.specs.Leaf.{code_of}
use native.Mathlib.Omega.{arith}
use Prim.Native.Nat.{◌+◌, ◌-◌}
use mathlib.Core.Path.{◌≡◌, subst}
use Rattle.look_up.proofs.look_up_within.Goals as goal

pub overflow_sub-high : goal.overflow_sub-high
overflow_sub-high c = omega (arith, (c.is_between.ensures c.if-is_between.true).rising)

pub search_part-leaf-requires : goal.search_part-leaf-requires
search_part-leaf-requires c =
    let at = c.is_between.ensures c.if-is_between.true in
    let all : c.args.high ≡ c.args.low + (c.args.high - c.args.low) = omega (arith, at.rising) in
    subst (Between (code_of (of_degree c.args.degree c.args.leaves.now) c.args.words.now) _ c.args.low) all at

pub returns-then-is_between-clause-leaf : goal.returns-then-is_between-clause-leaf
returns-then-is_between-clause-leaf c =
    let a = c.args in
    (with_length_found (of_degree a.degree a.leaves.now) a.words.now _ _ _ _ c.search_part-leaf.ensures c.with_length.ensures.leaf c.with_length.ensures.length).0
