-- One column more, behind those before.
use mathlib.Core.Path.{refl, sym}
use mathlib.Core.List.{append-nil, append_assoc}
use native.Mathlib.Omega.{arith}
use lib.ListN.{length-append}
use Rattle.std.proofs.Common.{rules}
use Rattle.layout_rules.specs.Section.{of_degree}
use Rattle.listing_rules.specs.Listing.{word_text}
use Rattle.listing_rules.proofs.Lines.{word_next, word_before}
use Rattle.leaf_lines.proofs.put_word.Goals as goal

pub loop-i-init : goal.loop-i-init
unfolding word_text
loop-i-init g c = sym (append-nil c.args.text.now)

pub put_column-requires : goal.put_column-requires
put_column-requires g c =
    let a = c.args in
    let before = word_before a.width (of_degree a.degree a.inputs.now) a.word.now c.loop-i.i a.columns c.loop-i-test.true in
    (search rules, simp (c.loop-i.invariant, length-append) (omega (arith, c.requires, before)))

pub loop-i-preserved : goal.loop-i-preserved
loop-i-preserved g c = simp (c.put_column.ensures, c.loop-i.invariant, word_next, append_assoc) refl
