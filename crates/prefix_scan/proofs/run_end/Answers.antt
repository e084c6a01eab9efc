use mathlib.Core.Path.{◌≡◌, refl, sym, ◌∙◌}
use native.Mathlib.Omega.{arith}
use borrow.Author.Tests.{eq-eqb, ne_eqb}
use Rattle.layout_rules.specs.Section.{of_degree}
use Rattle.lists.proofs.Scan.{scan_on, scan_here, scan_out}
use Rattle.prefix_rules.specs.Coverage.{run_end}
use Rattle.prefix_rules.proofs.Coverage.{digit_read}
use Rattle.prefix_scan.proofs.run_end.Goals as goal

pub loop-leaf-init : goal.loop-leaf-init
loop-leaf-init c = refl

pub returns-then-from-digit : goal.returns-then-from-digit
unfolding run_end
returns-then-from-digit c =
    let a = c.args in
    let loop = c.loop-leaf in
    let loop-test = c.loop-leaf-test in
    let read = c.from.ensures ∙ digit_read (of_degree a.degree a.leaves.now) a.words.now loop.leaf a.place _ _ c.word_start.ensures.start c.byte_at.ensures in
    sym (scan_here _ _ a.high loop-test.true (ne_eqb _ _ (λ q. c.if-from-digit.true (read ∙ q)))) ∙ loop.invariant

pub loop-leaf-preserved : goal.loop-leaf-preserved
loop-leaf-preserved c =
    let a = c.args in
    let loop = c.loop-leaf in
    let loop-test = c.loop-leaf-test in
    let read = c.from.ensures ∙ digit_read (of_degree a.degree a.leaves.now) a.words.now loop.leaf a.place _ _ c.word_start.ensures.start c.byte_at.ensures in
    sym (scan_on _ _ a.high loop-test.true (eq-eqb _ _ (sym read ∙ c.if-from-digit.false))) ∙ loop.invariant

pub returns : goal.returns
unfolding run_end
returns c =
    let at : c.args.high ≡ c.loop-leaf.leaf = omega (arith, c.loop-leaf.auto.leaf-end c.requires.1, c.loop-leaf-test.false) in
    at ∙ sym (scan_out _ _ c.args.high c.loop-leaf-test.false) ∙ c.loop-leaf.invariant
