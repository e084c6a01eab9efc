-- Where it starts, whether it ends in the file, and whether the last one ends it.
use mathlib.Core.Path.{◌∙◌}
use Prim.Native.Nat.{◌<◌}
use native.Mathlib.Omega.{arith}
use lib.ListN.{length}
use borrow.Author.Tests.{lt-ltb, lt-leb, ne_eqb}
use Rattle.layout_rules.proofs.Pair.{pair_elsewhere, pair_past, pair_inner, pair_last}
use Rattle.directory.proofs.pair_allowed.Goals.{then-section_start-expected_start, else-section_start-expected_start}
use Rattle.directory.proofs.pair_allowed.Goals as goal

pub returns-then-section-lt4 : goal.returns-then-section-lt4
returns-then-section-lt4 c =
    lt-ltb _ _ c.if-section-lt4.true ∙ pair_inner _ _ _ _ _ c.section_start.ensures.start c.expected_start.ensures c.section_end-end.ensures c.if-end-file.true.0 c.if-end-file.true.1 c.if-section-lt4.true

pub returns-else-section-lt4 : goal.returns-else-section-lt4
returns-else-section-lt4 c =
    pair_last _ _ _ _ _ c.section_start.ensures.start c.expected_start.ensures c.section_end-end.ensures c.if-end-file.true.0 c.if-end-file.true.1 c.if-section-lt4.false

pub returns-else-end-file : goal.returns-else-end-file
returns-else-end-file c =
    let failed = c.if-end-file.either in
    elim c.if-section_start-expected_start.branch [
      | then-section_start-expected_start w ↦
          let past : length c.args.file.now < c.section_end-end.result = omega (arith, failed, w.if-section_start-expected_start.true) in
          w.t-5-is ∙ lt-leb _ _ past ∙ pair_past _ _ _ _ _ c.section_start.ensures.start c.expected_start.ensures c.section_end-end.ensures w.if-section_start-expected_start.true past
      | else-section_start-expected_start w ↦
          let other = w.if-section_start-expected_start.false in
          w.t-5-is ∙ ne_eqb _ _ other ∙ pair_elsewhere _ _ _ _ _ c.section_start.ensures.start c.expected_start.ensures c.section_end-end.ensures other
    ]
