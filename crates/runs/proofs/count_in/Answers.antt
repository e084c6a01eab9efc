use Rattle.runs.proofs.Keys.{ready_words}
use Rattle.prefix_rules.proofs.Formed.{formed}
use Rattle.leaf_rules.specs.Leaf.{leaf_count, code_of}
use Rattle.numeration.proofs.PairCount.{pairs_next, pairs_within}
use Rattle.lists.specs.Count.{total}
use Rattle.numeration.specs.PairCount.{pairs_below, pair_count}
use Rattle.layout_rules.specs.Section.{of_degree}
use native.Mathlib.Omega.{arith}
use Prim.Native.Nat.{◌<◌}
use mathlib.Core.Path.{refl, ap, ◌∙◌}
use Rattle.runs.proofs.count_in.Goals as goal

pub keys_of_by-requires : goal.keys_of_by-requires
keys_of_by-requires c = record { room = c.requires.room.0; ordered = ready_words _ _ c.requires.formed.0 (formed _ _ c.requires.formed.0 c.requires.formed.1 c.requires.formed.2) (λ i. omega (arith, c.type_inv.words i)) }

pub loop-upper-init : goal.loop-upper-init
unfolding pairs_below total
loop-upper-init c = (omega arith, refl)

pub run_of-run-requires : goal.run_of-run-requires
run_of-run-requires c =
    let table = of_degree c.args.degree c.args.leaves.now in
    let is = formed table c.args.words.now c.requires.formed.0 c.requires.formed.1 c.requires.formed.2 in
    let there : c.loop-upper.upper < leaf_count table = omega (arith, c.leaf_count-count.ensures) in
    record { room = omega arith; upper = (there, is.some _ there, is.short _ there, omega (arith, c.leaf_count-count.ensures, c.loop-upper.invariant.0)) }

pub overflow_add-pairs : goal.overflow_add-pairs
overflow_add-pairs c =
    let table = of_degree c.args.degree c.args.leaves.now in
    let room = c.requires.room.1 in
    let within = pairs_within (code_of table c.args.words.now) 4096 c.loop-upper.upper (omega (arith, c.leaf_count-count.ensures, room)) room in
    omega (arith, c.loop-upper.invariant.1, c.run_of-run.ensures.end.1, room, within)

pub loop-upper-preserved : goal.loop-upper-preserved
loop-upper-preserved c =
    let table = of_degree c.args.degree c.args.leaves.now in
    let words = c.args.words.now in
    let is = formed table words c.requires.formed.0 c.requires.formed.1 c.requires.formed.2 in
    let ready = ready_words table words c.requires.formed.0 is (λ i. omega (arith, c.type_inv.words i)) in
    let fitting = c.run_of-run.ensures.fitting words c.requires.formed.0 c.requires.formed.1 is ready c.keys_of_by.ensures in
    (omega (arith, c.run_of-run.ensures.end.0, c.leaf_count-count.ensures), omega (arith, c.loop-upper.invariant.1, fitting, pairs_next (code_of table words) c.loop-upper.upper))

pub returns : goal.returns
unfolding pair_count
returns c =
    let code = code_of (of_degree c.args.degree c.args.leaves.now) c.args.words.now in
    c.loop-upper.invariant.1 ∙ ap (pairs_below code) (omega (arith, c.leaf_count-count.ensures))
