-- The number, a word, the element and the line feed.
use Prim.Native.Nat.{◌^◌}
use mathlib.Core.List.{[]}
use native.Mathlib.Omega.{arith}
use lib.ListN.{length-append}
use Rattle.ring.proofs.Element.{within_le}
use Rattle.text_rules.specs.Bytes.{bytes_of}
use Rattle.text_rules.proofs.Fault.{item_room}
use Rattle.text.proofs.Behind.{last, next, line}
use Rattle.listing_rules.proofs.Element.{element_short}
use Rattle.why_rules.specs.Why.{element_line}
use Rattle.why_lines.proofs.element_line.Goals as goal

pub item-requires : goal.item-requires
item-requires c = (omega arith, simp (c.new-text.ensures, length-append) (omega (arith, c.requires.short, item_room [] c.args.k c.ranges.k)))

pub put-requires : goal.put-requires
put-requires c = (omega arith, simp (c.item.ensures, c.new-text.ensures, length-append) (omega (arith, c.requires.short, item_room [] c.args.k c.ranges.k)))

pub put_element-requires : goal.put_element-requires
put_element-requires c = (omega arith, (simp (c.put.ensures, c.item.ensures, c.new-text.ensures, length-append) (omega (arith, c.requires.short, item_room [] c.args.k c.ranges.k, element_short c.args.x c.requires.parts)), within_le 32768 (2 ^ 62) _ (omega arith) c.requires.parts))

pub put-requires-2 : goal.put-requires-2
put-requires-2 c = (omega arith, simp (c.put_element.ensures, c.put.ensures, c.item.ensures, c.new-text.ensures, length-append) (omega (arith, c.requires.short, item_room [] c.args.k c.ranges.k, element_short c.args.x c.requires.parts)))

pub returns : goal.returns
unfolding bytes_of element_line
returns c =
    let whole = line c.new-text.ensures (next _ _ _ _ _ c.item.ensures (next _ _ _ _ _ c.put.ensures (next _ _ _ _ _ c.put_element.ensures (last _ _ _ c.put-2.ensures)))) in
    whole
