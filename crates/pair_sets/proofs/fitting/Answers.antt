-- A run that starts early enough and ends late enough has all leaves that fit, and its set their weights.
use Rattle.layout_rules.specs.Section.{of_degree}
use Rattle.runs.proofs.Keys.{run_within}
use Rattle.runs.proofs.Exact.{run_exact, alone_exact}
use Rattle.weight_sets.specs.Bits.{Has}
use Rattle.weight_sets.proofs.Bits.{has_single}
use Rattle.numeration.proofs.PairCount.{short_count}
use Rattle.leaf_rules.specs.Leaf.{code_of}
use Rattle.weight_sets.specs.Weights.{Covers}
use mathlib.Core.Path.{◌≡◌, refl, sym, ap, subst, ◌∙◌}
use Prim.Native.Nat.{ℕ, ◌+◌, ◌-◌, ◌*◌, ◌%◌, ◌^◌, pred}
use native.Mathlib.Omega.{arith}
use lib.ListN.{get_or}
use Rattle.pair_sets.proofs.fitting.Goals as goal

pub returns-then-length-eq1 : goal.returns-then-length-eq1
returns-then-length-eq1 c =
    let a = c.args in
    let counted = c.leaf_count-count.ensures in record { end = (omega (arith, counted), omega (arith, counted)); set = λ words ready keyed l there fit. c.requires.weights.2 l there; count = λ words m input is ready keyed. counted ∙ sym (short_count (code_of (of_degree a.degree a.leaves.now) words) a.upper (sym c.word_length-length.ensures.size ∙ c.if-length-eq1.true)) }

pub single-requires : goal.single-requires
single-requires c = omega (arith, c.from.ensures, c.requires.weights.0 c.low_leaf-low.result (omega (arith, c.leaf_count-count.ensures, c.low_leaf-low.ensures.within)))

pub returns-then-next_above : goal.returns-then-next_above
returns-then-next_above c =
    let a = c.args in
    let table = of_degree a.degree a.leaves.now in
    let numbers = a.numbers.now in
    let keys = a.keys.now in
    let low = c.low_leaf-low in
    let counted = c.leaf_count-count.ensures in
    let above = c.next_above.ensures c.if-next_above.true in
    let rest = c.behind.ensures ∙ ap (λ (n : ℕ). 256 ^ (8 - pred n)) c.word_length-length.ensures.size in
    let tail = (get_or keys a.upper 0 * 2 ^ 8) % 2 ^ 64 in
    let has = subst (λ (x : ℕ). Has x (get_or numbers low.result 0)) (sym (c.single.ensures ∙ ap (λ (n : ℕ). 2 ^ n) c.from.ensures)) (has_single (get_or numbers low.result 0)) in record {
      end = (omega (arith, above.0, counted), omega (arith, above.0, counted));
      set = λ words ready keyed l there fit.
          let within = run_within table words ready a.upper c.requires.upper.0 keys keyed tail c.behind.result low.result (low.result + 1) refl rest (omega (arith, low.ensures.within, counted)) low.ensures.low (λ h. above.1) l there fit in
          let at : low.result ≡ l = omega (arith, within.0, within.1) in
          subst (λ (k : ℕ). Has c.single.result (get_or numbers k 0)) at has;
      count = λ words m input is ready keyed.
          sym (alone_exact table words m input is ready a.upper c.requires.upper.0 keys keyed tail refl low.result (omega (arith, above.0, counted)) low.ensures.low c.behind.result rest above.1);
    }

pub one_by_one-run-requires : goal.one_by_one-run-requires
one_by_one-run-requires c =
    record { room = (omega (arith, c.leaf_count-count.ensures), omega (arith, c.leaf_count-count.ensures), c.by_eights.ensures.end.in_order); weights = λ k h. c.requires.weights.0 k (omega (arith, c.leaf_count-count.ensures)) }

pub overflow_sub-result : goal.overflow_sub-result
overflow_sub-result c = omega (arith, (c.one_by_one-run.ensures.end c.last_from-start.result c.by_eights.ensures.end).from_low)

pub returns : goal.returns
returns c =
    let a = c.args in
    let table = of_degree a.degree a.leaves.now in
    let numbers = a.numbers.now in
    let keys = a.keys.now in
    let start = c.last_from-start.ensures in
    let counted = c.leaf_count-count.ensures in
    let found = c.one_by_one-run.ensures.end c.last_from-start.result c.by_eights.ensures.end in
    let in-run = c.one_by_one-run.ensures.set c.last_from-start.result (c.by_eights.ensures.set numbers (subst (λ (n : ℕ). Covers numbers a.sets.now n 8) (sym counted) c.requires.weights.1)) in
    let rest = c.behind.ensures ∙ ap (λ (n : ℕ). 256 ^ (8 - pred n)) c.word_length-length.ensures.size in
    let tail = (get_or keys a.upper 0 * 2 ^ 8) % 2 ^ 64 in record {
      end = (omega (arith, found.to_end, counted), omega (arith, found.to_end, counted));
      set = λ words ready keyed l there fit.
          let within = run_within table words ready a.upper c.requires.upper.0 keys keyed tail c.behind.result c.last_from-start.result c.one_by_one-run.result.end refl rest (omega (arith, start.inside, counted)) start.low (λ h. found.above (omega (arith, counted))) l there fit in
          in-run l within.0 within.1;
      count = λ words m input is ready keyed.
          sym (run_exact table words m input is ready a.upper c.requires.upper.0 keys keyed tail refl c.last_from-start.result (omega (arith, start.inside, counted)) start.low (λ h. start.last (omega (arith, counted))) c.behind.result rest c.one_by_one-run.result.end found.from_low (omega (arith, found.to_end, counted)) (λ k l. found.before k (omega arith))
          (λ h. found.above (omega (arith, counted))));
    }
