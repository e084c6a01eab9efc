-- Yes is said only where the counts, the word bytes and the numbers of the words all allow it.
use native.Mathlib.Omega.{arith}
use Rattle.layout_rules.specs.Section.{of_degree}
use Rattle.prefix_code.proofs.Quick.{code_kept}
use Rattle.prefix_code.proofs.well_coded.Goals as goal

pub numbered-requires : goal.numbered-requires
numbered-requires c =
    let kept = c.if-top-inputs.true in
    record {
      sizes = (kept.0, kept.1, omega (arith, c.leaf_count-count.ensures, kept.2));
      indexes = λ k h. omega (arith, c.highest.ensures k h, c.from-top.ensures, kept.3);
    }

pub returns-then-top-inputs : goal.returns-then-top-inputs
returns-then-top-inputs c =
    let a = c.args in
    let kept = c.if-top-inputs.true in
    λ t. let n = c.numbered.ensures t in
    code_kept (of_degree a.degree a.leaves.now) a.words.now a.inputs kept.0 kept.1 n.0 (λ k h. omega (arith, c.highest.ensures k h, c.from-top.ensures, kept.3)) n.1
