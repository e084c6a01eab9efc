-- A text has at most 31 bytes.
use Prim.Native.Nat.{◌^◌}
use native.Mathlib.Omega.{arith}
use Rattle.ring.proofs.Element.{within_le}
use Rattle.listing_rules.proofs.Element.{element_short}
use Rattle.listing.proofs.text_length.Goals as goal

pub put_element-requires : goal.put_element-requires
put_element-requires c = (omega arith, (simp c.new-text.ensures (omega (arith, element_short _ c.requires)), within_le 32768 (2 ^ 62) _ (omega arith) c.requires))

pub returns : goal.returns
returns c = simp (c.len.ensures.count, c.put_element.ensures, c.new-text.ensures) (omega (arith, element_short _ c.requires))
