-- Four pieces, one behind the other: at most 60, 6, 256 and 41 bytes.
use mathlib.Core.List.{[]}
use native.Mathlib.Omega.{arith}
use lib.ListN.{length, length-append}
use Rattle.text_rules.specs.Bytes.{bytes_of}
use Rattle.text_rules.proofs.Fault.{item_room}
use Rattle.text.proofs.Behind.{last, next, line}
use Rattle.layout_rules.specs.Section.{of_degree}
use Rattle.listing_rules.proofs.Lines.{word_short}
use Rattle.why_rules.specs.Why.{why_leaf}
use Rattle.why_lines.proofs.leaf_line.Goals as goal

pub item-requires : goal.item-requires
item-requires c = (omega arith, simp (c.new-text.ensures, length-append) (omega (arith, c.requires.short.0, item_room [] c.args.leaf c.ranges.leaf)))

pub put-requires : goal.put-requires
put-requires c = (omega arith, simp (c.item.ensures, c.new-text.ensures, length-append) (omega (arith, c.requires.short.0, item_room [] c.args.leaf c.ranges.leaf)))

pub put_word-requires : goal.put_word-requires
put_word-requires c = (omega arith, simp (c.put.ensures, c.item.ensures, c.new-text.ensures, length-append) (omega (arith, c.requires.short.0, c.requires.short.1, item_room [] c.args.leaf c.ranges.leaf, word_short (of_degree c.args.degree c.args.inputs.now) (λ k. omega (arith, (c.type_inv.inputs k).fits)) 0 (omega arith) c.args.word.now (length c.args.word.now))))

pub put_weight-requires : goal.put_weight-requires
put_weight-requires c = (omega arith, (simp (c.put_word.ensures, c.put.ensures, c.item.ensures, c.new-text.ensures, length-append) (omega (arith, c.requires.short.0, c.requires.short.1, item_room [] c.args.leaf c.ranges.leaf, word_short (of_degree c.args.degree c.args.inputs.now) (λ k. omega (arith, (c.type_inv.inputs k).fits)) 0 (omega arith) c.args.word.now (length c.args.word.now))), c.requires.parts))

pub returns : goal.returns
unfolding bytes_of why_leaf
returns c =
    let whole = line c.new-text.ensures (next _ _ _ _ _ c.item.ensures (next _ _ _ _ _ c.put.ensures (next _ _ _ _ _ c.put_word.ensures (last _ _ _ c.put_weight.ensures)))) in
    whole
