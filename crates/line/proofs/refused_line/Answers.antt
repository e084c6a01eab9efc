-- Two items and a line feed, each written after the one before.
use mathlib.Core.Path.{refl}
use mathlib.Core.List.{[], append_assoc}
use native.Mathlib.Omega.{arith}
use lib.ListN.{length-append}
use Rattle.text_rules.specs.Bytes.{bytes_of}
use Rattle.text_rules.specs.Fault.{refused_word, place_word}
use Rattle.text_rules.proofs.Fault.{item_room}
use Rattle.line_rules.specs.Line.{refused_line}
use Rattle.line.proofs.refused_line.Goals as goal

pub item-requires : goal.item-requires
item-requires c = (omega arith, simp c.new-text.ensures (omega (arith, item_room [] c.args.number c.ranges.number)))

pub item-requires-2 : goal.item-requires-2
item-requires-2 c =
    (omega arith, simp (c.item.ensures, c.new-text.ensures) (omega (arith, item_room [] c.args.number c.ranges.number, item_room [] c.args.place c.ranges.place)))

pub put-requires : goal.put-requires
put-requires c =
    (omega arith, simp (c.item-2.ensures, c.item.ensures, c.new-text.ensures, length-append) (omega (arith, item_room [] c.args.number c.ranges.number, item_room [] c.args.place c.ranges.place)))

pub returns : goal.returns
unfolding bytes_of refused_word place_word refused_line
returns c = simp (c.item-2.ensures, c.put.ensures, c.item.ensures, c.new-text.ensures, append_assoc) refl
