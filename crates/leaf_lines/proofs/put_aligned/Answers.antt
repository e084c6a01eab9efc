-- The text is made apart, since its length says where it starts.
use Prim.Native.Nat.{◌^◌}
use native.Mathlib.Omega.{arith}
use Rattle.std.proofs.Common.{rules}
use Rattle.ring.proofs.Element.{within_le}
use Rattle.listing_rules.proofs.Element.{element_short}
use Rattle.leaf_lines.proofs.put_aligned.Goals as goal

pub put_element-requires : goal.put_element-requires
put_element-requires g c = (omega arith, (simp c.new-element.ensures (omega (arith, element_short _ c.requires.parts)), within_le 32768 (2 ^ 62) _ (omega arith) c.requires.parts))

pub put_right-requires : goal.put_right-requires
put_right-requires g c = (search rules, simp (c.as_bytes.ensures.same, c.put_element.ensures, c.new-element.ensures) c.requires.room)

pub returns : goal.returns
returns g c = simp (c.as_bytes.ensures.same, c.put_element.ensures, c.new-element.ensures) at c.put_right.ensures
