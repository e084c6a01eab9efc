-- Two numbers, a third and the line feed.
use mathlib.Core.List.{[]}
use mathlib.Core.Path.{ap}
use native.Mathlib.Omega.{arith}
use lib.ListN.{length, length-append}
use Rattle.text_rules.specs.Bytes.{bytes_of}
use Rattle.text_rules.proofs.Fault.{item_room}
use Rattle.text.proofs.Behind.{last, next, line}
use Rattle.why_rules.specs.Why.{extent_line}
use Rattle.why_lines.proofs.extent_line.Goals as goal

pub put_numbers-requires : goal.put_numbers-requires
put_numbers-requires c = (omega arith, simp c.new-text.ensures (omega (arith, c.requires)))

pub item-requires : goal.item-requires
item-requires c = (omega arith, omega (arith, c.requires, ap length c.new-text.ensures, c.put_numbers.ensures.within, item_room [] c.args.size c.ranges.size))

pub put-requires : goal.put-requires
put-requires c = (omega arith, simp (c.item.ensures, length-append) (omega (arith, c.requires, ap length c.new-text.ensures, c.put_numbers.ensures.within, item_room [] c.args.size c.ranges.size)))

pub returns : goal.returns
unfolding bytes_of extent_line
returns c =
    let whole = line c.new-text.ensures (next _ _ _ _ _ c.put_numbers.ensures.text (next _ _ _ _ _ c.item.ensures (last _ _ _ c.put.ensures))) in
    whole
