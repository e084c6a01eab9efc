-- The weights are numbered, the words are numbers and the eights cover their leaves, which is what the look at all pairs asks for.
use Rattle.layout_rules.specs.Section.{of_degree}
use Rattle.pair_sets.specs.Runs.{Judgement}
use Rattle.pair_sets.proofs.Pass.{none_judged}
use Rattle.runs.proofs.Keys.{ready_words}
use Rattle.prefix_rules.proofs.Formed.{formed}
use Rattle.digit_rules.proofs.Base.{base_within}
use Rattle.digit_rules.specs.Record.{element_count}
use Rattle.ring.specs.Tests.{RowsWithin}
use mathlib.Core.Path.{sym, subst}
use Prim.Native.Nat.{◌^◌}
use native.Mathlib.Omega.{arith}
use Rattle.pair_sets.proofs.look.Goals as goal

pub returns-in_default : goal.returns-in_default
returns-in_default c = none_judged _ _ _ _ _

pub keys_of_by-requires : goal.keys_of_by-requires
keys_of_by-requires c =
    let a = c.args in
    let leaves = of_degree a.degree a.leaves.now in
    let inputs = of_degree a.degree a.inputs.now in
    let words = a.words.now in
    let pre = c.requires in
    record { room = pre.room.0; ordered = ready_words leaves words (element_count inputs) (formed leaves words (element_count inputs) pre.table.1 pre.table.2) (λ i. omega (arith, c.type_inv.words i)) }

pub eights-requires : goal.eights-requires
eights-requires c =
    let pre = c.requires in
    let numbered = c.in-Some.ensures in
    record { room = (omega (arith, c.leaf_count.ensures, pre.room.2), omega (arith, c.leaf_count.ensures, pre.room.1)); weights = λ k h. omega (arith, (numbered.1 k (omega (arith, c.leaf_count.ensures))).0, numbered.0) }

pub all_in-requires : goal.all_in-requires
all_in-requires c =
    let pre = c.requires in
    let numbered = c.in-Some.ensures in record {
      table = (subst (RowsWithin (2 ^ 21)) (sym c.base_of-matrix.ensures) (base_within (of_degree c.args.degree c.args.base.now) pre.table.0), pre.table.1, pre.table.2);
      room = (omega (arith, pre.room.0), omega (arith, pre.room.2), omega (arith, pre.room.1), numbered.0, omega (arith, numbered.0), pre.room.3);
      known = (c.keys_of_by.ensures, numbered.1, λ l k h there. c.eights.ensures l k h (omega (arith, there, c.leaf_count.ensures)));
    }

pub returns : goal.returns
returns c =
    let a = c.args in
    let leaves = of_degree a.degree a.leaves.now in
    let base-of = c.base_of-matrix in
    subst (λ b. Judgement b (of_degree a.degree a.alphabet.now) (of_degree a.degree a.inputs.now) leaves a.words.now c.all_in.result) base-of.ensures c.all_in.ensures
