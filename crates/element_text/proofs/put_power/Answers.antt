-- Nothing for the power 0, ω alone for 1, and else its exponent.
use mathlib.Core.Path.{sym, ap}
use mathlib.Core.List.{append-nil}
use native.Mathlib.Omega.{arith}
use lib.ListN.{length}
use Rattle.std.proofs.Common.{rules}
use Rattle.text_rules.specs.Bytes.{bytes_of}
use Rattle.listing_rules.proofs.Element.{power_none, power_one, power_more}
use Rattle.element_text.proofs.put_power.Goals as goal

pub put-requires : goal.put-requires
unfolding bytes_of
put-requires g c = (search rules, omega (arith, c.requires, ap length (power_one c.args.k c.in-1.is)))

pub item-requires : goal.item-requires
unfolding bytes_of
item-requires g c = (search rules, omega (arith, c.requires, ap length (power_more c.args.k (search rules) (search rules))))

pub returns-in-0 : goal.returns-in-0
returns-in-0 g c = rw (power_none c.args.k c.in-0.is) (sym (append-nil c.args.text.now))

pub returns-in-1 : goal.returns-in-1
unfolding bytes_of
returns-in-1 g c = rw (power_one c.args.k c.in-1.is) c.put.ensures

pub returns-in_default : goal.returns-in_default
unfolding bytes_of
returns-in_default g c = rw (power_more c.args.k (search rules) (search rules)) c.item.ensures
