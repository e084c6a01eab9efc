-- Two items, one behind the other; each number has room.
use mathlib.Core.Path.{refl}
use mathlib.Core.List.{[], append_assoc}
use native.Mathlib.Omega.{arith}
use lib.ListN.{length-append}
use Rattle.std.proofs.Common.{rules}
use Rattle.text_rules.proofs.Fault.{item_room}
use Rattle.why_rules.specs.Why.{numbered}
use Rattle.why_lines.proofs.put_numbers.Goals as goal

pub item-requires : goal.item-requires
item-requires g c = (search rules, simp length-append (omega (arith, c.requires, item_room [] c.args.a c.ranges.a)))

pub item-requires-2 : goal.item-requires-2
item-requires-2 g c = (search rules, simp (c.item.ensures, length-append) (omega (arith, c.requires, item_room [] c.args.a c.ranges.a, item_room [] c.args.b c.ranges.b)))

pub returns : goal.returns
unfolding numbered
returns g c = record { text = simp (c.item-2.ensures, c.item.ensures, append_assoc) refl; within = simp (c.item-2.ensures, c.item.ensures, length-append) (omega (arith, c.requires, item_room [] c.args.a c.ranges.a, item_room [] c.args.b c.ranges.b)) }
