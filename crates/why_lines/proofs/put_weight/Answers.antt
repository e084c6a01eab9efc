-- A word, the weight and the line feed: at most 9, 31 and 1 bytes.
use Prim.Native.Nat.{◌^◌}
use mathlib.Core.List.{append_assoc}
use mathlib.Core.Path.{refl}
use native.Mathlib.Omega.{arith}
use lib.ListN.{length-append}
use Rattle.std.proofs.Common.{rules}
use Rattle.ring.proofs.Element.{within_le}
use Rattle.text_rules.specs.Bytes.{bytes_of}
use Rattle.listing_rules.proofs.Element.{element_short}
use Rattle.why_rules.specs.Why.{weight_text}
use Rattle.why_lines.proofs.put_weight.Goals as goal

pub put-requires : goal.put-requires
put-requires g c = (search rules, omega (arith, c.requires.room))

pub put_element-requires : goal.put_element-requires
put_element-requires g c = (search rules, (simp (c.put.ensures, length-append) (omega (arith, c.requires.room, element_short c.args.weight c.requires.parts)), within_le 32768 (2 ^ 62) _ (omega arith) c.requires.parts))

pub put-requires-2 : goal.put-requires-2
put-requires-2 g c = (search rules, simp (c.put_element.ensures, c.put.ensures, length-append) (omega (arith, c.requires.room, element_short c.args.weight c.requires.parts)))

pub returns : goal.returns
unfolding bytes_of weight_text
returns g c = simp (c.put-2.ensures, c.put_element.ensures, c.put.ensures, append_assoc) refl
