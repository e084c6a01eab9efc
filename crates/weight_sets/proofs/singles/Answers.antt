use Rattle.weight_sets.proofs.Bits.{has_single}
use Rattle.lists.proofs.Entries.{entry_next}
use mathlib.Core.Path.{◌≡◌, sym, ap, subst, ◌∙◌}
use Prim.Native.Nat.{ℕ, ◌+◌, ◌^◌}
use native.Mathlib.Omega.{arith}
use lib.ListN.{get_or}
use Rattle.weight_sets.specs.Bits.{Has}
use Rattle.weight_sets.proofs.singles.Goals as goal

pub loop-leaf-init : goal.loop-leaf-init
loop-leaf-init c = λ k h. absurd (omega arith)

pub single-requires : goal.single-requires
single-requires c = omega (arith, c.from.ensures, c.requires.weights c.loop-leaf.leaf c.loop-leaf-test.true)

pub loop-leaf-preserved : goal.loop-leaf-preserved
loop-leaf-preserved c =
    let numbers = c.args.numbers.now in
    let loop = c.loop-leaf in
    entry_next (λ k x. Has x (get_or numbers k 0)) loop.sets loop.leaf c.single.result (omega arith) loop.invariant
    (subst (λ (x : ℕ). Has x (get_or numbers loop.leaf 0)) (sym (c.single.ensures ∙ ap (λ (n : ℕ). 2 ^ n) c.from.ensures)) (has_single (get_or numbers loop.leaf 0)))

pub returns : goal.returns
returns c = λ l k h there. let e : l ≡ l + k = omega arith in subst (λ (i : ℕ). Has (get_or c.loop-leaf.sets l 0) (get_or c.args.numbers.now i 0)) e (c.loop-leaf.invariant l (omega arith))
