use Rattle.runs.proofs.Places.{between_above, between_below}
use Rattle.runs.specs.Words.{Between}
use mathlib.Core.Path.{◌≡◌, sym, ap, subst, ◌∙◌}
use Rattle.weight_sets.proofs.Bits.{has_single}
use Rattle.pair_sets.proofs.Runs.{run_next}
use Prim.Native.Nat.{ℕ, ◌^◌}
use native.Mathlib.Omega.{arith}
use lib.ListN.{get_or}
use Rattle.weight_sets.specs.Bits.{Has}
use Rattle.pair_sets.proofs.one_by_one.Goals as goal

pub loop-leaf-init : goal.loop-leaf-init
loop-leaf-init c = (λ start between. between, λ start before. before)

pub returns-then-last-keys : goal.returns-then-last-keys
returns-then-last-keys c = record { end = λ start between. between_below _ _ _ _ _ _ (c.loop-leaf.invariant.0 start between) _ (omega arith) c.loop-leaf-test.true c.if-last-keys.true; set = c.loop-leaf.invariant.1 }

pub single-set-requires : goal.single-set-requires
single-set-requires c = omega (arith, c.from.ensures, c.requires.weights c.loop-leaf.leaf c.loop-leaf-test.true)

pub loop-leaf-preserved : goal.loop-leaf-preserved
loop-leaf-preserved c =
    let numbers = c.args.numbers.now in
    let loop = c.loop-leaf in (
      λ start between. between_above _ _ _ _ _ _ (loop.invariant.0 start between) _ (omega arith) c.loop-leaf-test.true (omega (arith, c.if-last-keys.false)),
      λ start before. run_next numbers c.args.count start loop.set loop.leaf c.single-set.result
          (subst (λ (x : ℕ). Has x (get_or numbers loop.leaf 0)) (sym (c.single-set.ensures ∙ ap (λ (n : ℕ). 2 ^ n) c.from.ensures)) (has_single (get_or numbers loop.leaf 0)))
          (loop.invariant.1 start before),
    )

pub returns : goal.returns
returns c =
    let a = c.args in
    let end : c.loop-leaf.leaf ≡ a.count = omega (arith, c.requires.room.2) in record {
      end = λ start between. subst (λ (k : ℕ). Between a.keys.now a.last start a.count k a.count) end (c.loop-leaf.invariant.0 start between);
      set = λ start before k from upto. c.loop-leaf.invariant.1 start before k from (omega (arith, upto, end));
    }
