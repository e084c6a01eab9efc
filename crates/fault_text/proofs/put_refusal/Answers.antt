-- Two items, one behind the other; each number has room.
use mathlib.Core.Path.{refl, ap}
use mathlib.Core.List.{◌++◌, append_assoc}
use native.Mathlib.Omega.{arith}
use lib.ListN.{length, length-append}
use Rattle.std.proofs.Common.{rules}
use Rattle.text_rules.proofs.Fault.{item_room}
use Rattle.text_rules.specs.Bytes.{bytes_of}
use Rattle.text_rules.specs.Decimal.{decimal}
use Rattle.text_rules.specs.Fault.{place_word}
use Rattle.fault_text.proofs.put_refusal.Goals as goal

pub item-requires : goal.item-requires
item-requires g c = (search rules, omega (arith, c.requires, item_room c.args.word.now c.args.number c.ranges.number))

pub item-requires-2 : goal.item-requires-2
unfolding bytes_of place_word
item-requires-2 g c = (search rules, omega (arith, c.requires, ap length c.item.ensures, length-append c.args.text.now (c.args.word.now ++ decimal c.args.number), item_room c.args.word.now c.args.number c.ranges.number, item_room place_word c.args.place c.ranges.place))

pub returns : goal.returns
unfolding bytes_of place_word
returns g c = simp (c.item-2.ensures, c.item.ensures, append_assoc) refl
