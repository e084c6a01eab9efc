-- Two items, one behind the other; each number has room.
use mathlib.Core.Path.{refl, ap}
use mathlib.Core.List.{◌++◌, append_assoc}
use native.Mathlib.Omega.{arith}
use lib.ListN.{length, length-append}
use Rattle.std.proofs.Common.{rules}
use Rattle.text_rules.proofs.Fault.{item_room}
use Rattle.text_rules.specs.Decimal.{decimal}
use Rattle.printed.specs.Text.{counts_text}
use Rattle.printed.proofs.put_counts.Goals as goal

pub item-requires : goal.item-requires
item-requires g c = (search rules, omega (arith, c.requires, item_room c.args.word.now c.args.n c.ranges.n))

pub item-requires-2 : goal.item-requires-2
item-requires-2 g c =
    (search rules, omega (arith, c.requires, ap length c.item.ensures, length-append c.args.text.now (c.args.word.now ++ decimal c.args.n), item_room c.args.word.now c.args.n c.ranges.n, item_room c.args.next.now c.args.m c.ranges.m))

pub returns-clause-put : goal.returns-clause-put
unfolding counts_text
returns-clause-put g c = simp (c.item-2.ensures, c.item.ensures, append_assoc) refl

pub returns-clause-within : goal.returns-clause-within
returns-clause-within g c =
    omega (arith, ap length c.item.ensures, ap length c.item-2.ensures, length-append c.args.text.now (c.args.word.now ++ decimal c.args.n), length-append c.item.new.self (c.args.next.now ++ decimal c.args.m), item_room c.args.word.now c.args.n c.ranges.n, item_room c.args.next.now c.args.m c.ranges.m)
