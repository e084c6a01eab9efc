-- The run starts at the last leaf at most the tail and ends at the first above all that begin with it, so its length is the count.
use Rattle.runs.proofs.Exact.{run_exact}
use Rattle.numeration.proofs.PairCount.{short_count}
use Rattle.leaf_rules.specs.Leaf.{code_of}
use Rattle.layout_rules.specs.Section.{of_degree}
use lib.ListN.{get_or}
use Prim.Native.Nat.{ℕ, ◌-◌, ◌*◌, ◌%◌, ◌^◌, pred}
use mathlib.Core.Path.{refl, sym, ap, ◌∙◌}
use native.Mathlib.Omega.{arith}
use Rattle.runs.proofs.run_of.Goals as goal

pub returns-then-length-eq1 : goal.returns-then-length-eq1
returns-then-length-eq1 c = record { end = (omega (arith, c.leaf_count-count.ensures), omega (arith, c.leaf_count-count.ensures)); fitting = λ words m input is ready keyed. c.leaf_count-count.ensures ∙ sym (short_count (code_of (of_degree c.args.degree c.args.leaves.now) words) c.args.upper (sym c.word_length-length.ensures.size ∙ c.if-length-eq1.true)) }

pub returns : goal.returns
returns c =
    let a = c.args in
    let table = of_degree a.degree a.leaves.now in
    let keys = a.keys.now in
    let start = c.last_from-start.ensures in
    let found = c.first_above-end.ensures in
    let counted = c.leaf_count-count.ensures in record {
      end = (omega (arith, found.to_end, counted), omega (arith, found.to_end, counted));
      fitting = λ words m input is ready keyed. sym (run_exact table words m input is ready a.upper c.requires.upper.0 keys keyed ((get_or keys a.upper 0 * 2 ^ 8) % 2 ^ 64) refl c.last_from-start.result
          (omega (arith, start.inside, counted)) start.low (λ h. start.last (omega (arith, counted))) c.behind.result (c.behind.ensures ∙ ap (λ (n : ℕ). 256 ^ (8 - pred n)) c.word_length-length.ensures.size)
          c.first_above-end.result found.from_low (omega (arith, found.to_end, counted)) (λ k l. found.before k (omega arith)) (λ h. found.above (omega (arith, counted))));
    }
