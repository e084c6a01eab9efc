-- Three items and a line feed, each written after the one before.
use mathlib.Core.List.{[]}
use native.Mathlib.Omega.{arith}
use lib.ListN.{length-append}
use borrow.Author.Rules.{rules}
use Rattle.text_rules.specs.Bytes.{bytes_of}
use Rattle.text_rules.proofs.Fault.{item_room}
use Rattle.text.proofs.Behind.{last, next, line}
use Rattle.line_rules.specs.Line.{accepted_line, accepted_word, leaves_word, digits_word}
use Rattle.line.proofs.accepted_line.Goals as goal

pub item-requires : goal.item-requires
item-requires c = (omega arith, simp c.new-text.ensures (omega (arith, item_room [] c.args.f.depth (search rules))))

pub item-requires-2 : goal.item-requires-2
item-requires-2 c =
    (omega arith, simp (c.item.ensures, c.new-text.ensures) (omega (arith, item_room [] c.args.f.depth (search rules), item_room [] c.args.f.leaves (search rules))))

pub item-requires-3 : goal.item-requires-3
item-requires-3 c =
    (omega arith, simp (c.item-2.ensures, c.item.ensures, c.new-text.ensures, length-append) (omega (arith, item_room [] c.args.f.depth (search rules), item_room [] c.args.f.leaves (search rules), item_room [] c.args.f.digits (search rules))))

pub put-requires : goal.put-requires
put-requires c =
    (omega arith, simp (c.item-3.ensures, c.item-2.ensures, c.item.ensures, c.new-text.ensures, length-append) (omega (arith, item_room [] c.args.f.depth (search rules), item_room [] c.args.f.leaves (search rules), item_room [] c.args.f.digits (search rules))))

pub returns : goal.returns
unfolding bytes_of accepted_word leaves_word digits_word accepted_line
returns c =
    let whole = line c.new-text.ensures (next _ _ _ _ _ c.item.ensures (next _ _ _ _ _ c.item-2.ensures (next _ _ _ _ _ c.item-3.ensures (last _ _ _ c.put.ensures)))) in
    whole
