use mathlib.Core.Path.{sym, ◌∙◌}
use Prim.Native.Nat.{◌-◌}
use native.Mathlib.Omega.{arith}
use native.Mathlib.Nat.{sub-zero}
use Rattle.layout_rules.specs.Section.{of_degree}
use Rattle.leaf_rules.specs.Leaf.{code_of}
use Rattle.prefix_rules.proofs.Coverage.{run_high, runs_on, runs_here, runs_out, covered_empty, covered_leaf, covered_last, covered_deeper}
use Rattle.prefix_scan.proofs.+covered.Goals as goal

pub returns-then-high-low : goal.returns-then-high-low
returns-then-high-low t c = sym (covered_empty _ _ _ _ _ _ c.if-high-low.true)

pub returns-then-word_length-place : goal.returns-then-word_length-place
returns-then-word_length-place t c = sym (covered_leaf (code_of (of_degree c.args.degree c.args.leaves.now) c.args.words.now) _ _ _ _ _ c.if-high-low.false (omega arith))

pub returns-then-left-eq0 : goal.returns-then-left-eq0
returns-then-left-eq0 t c = sym (covered_last (code_of (of_degree c.args.degree c.args.leaves.now) c.args.words.now) _ _ _ _ _ c.if-left-eq0.true c.if-high-low.false (omega arith))

pub loop-digit-init : goal.loop-digit-init
loop-digit-init t c = (omega arith, rw sub-zero (sym (covered_deeper (code_of (of_degree c.args.degree c.args.leaves.now) c.args.words.now) _ _ _ _ c.if-left-eq0.false (omega arith) c.if-high-low.false (omega arith))))

pub covered-requires : goal.covered-requires
covered-requires t c = (omega arith, (omega arith, omega (arith, c.run_end-end.ensures, run_high (code_of (of_degree c.args.degree c.args.leaves.now) c.args.words.now) (8 - c.args.left) c.loop-digit.digit c.loop-digit.from c.args.high c.loop-digit.invariant.0)))

pub returns-then-not-covered : goal.returns-then-not-covered
returns-then-not-covered t c =
    sym
    (runs_here (code_of (of_degree c.args.degree c.args.leaves.now) c.args.words.now) _ _ _ _ _ _ _ c.run_end-end.ensures c.loop-digit-test.true
    (sym c.covered.ensures ∙ c.if-not-covered.true))
    ∙ c.loop-digit.invariant.1

pub loop-digit-preserved : goal.loop-digit-preserved
loop-digit-preserved t c = (
  omega (arith, c.run_end-end.ensures, run_high (code_of (of_degree c.args.degree c.args.leaves.now) c.args.words.now) (8 - c.args.left) c.loop-digit.digit c.loop-digit.from c.args.high c.loop-digit.invariant.0),
  sym
      (runs_on (code_of (of_degree c.args.degree c.args.leaves.now) c.args.words.now) _ _ _ _ _ _ _ c.run_end-end.ensures c.loop-digit-test.true
      (sym c.covered.ensures ∙ c.if-not-covered.false))
      ∙ c.loop-digit.invariant.1,
)

pub returns : goal.returns
returns t c = sym (runs_out (code_of (of_degree c.args.degree c.args.leaves.now) c.args.words.now) _ _ _ _ _ _ c.loop-digit-test.false) ∙ c.loop-digit.invariant.1
