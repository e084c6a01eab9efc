-- A space and the text of the record.
use Prim.Native.Nat.{◌^◌}
use mathlib.Core.List.{◌++◌}
use mathlib.Core.Path.{ap, ◌∙◌}
use native.Mathlib.Omega.{arith}
use Rattle.ring.proofs.Element.{within_le}
use Rattle.text_rules.specs.Bytes.{bytes_of}
use Rattle.text.proofs.Behind.{last, next, line}
use Rattle.listing_rules.specs.Element.{element_text}
use Rattle.listing_rules.specs.Listing.{item_text}
use Rattle.listing_rules.proofs.Element.{element_short}
use Rattle.listing.proofs.item.Goals as goal

pub put_element-requires : goal.put_element-requires
put_element-requires c = (omega arith, (simp (c.put.ensures, c.new-text.ensures) (omega (arith, element_short _ c.record_at.ensures.within)), within_le 32768 (2 ^ 62) _ (omega arith) c.record_at.ensures.within))

pub returns : goal.returns
unfolding bytes_of item_text
returns c =
    let whole = line c.new-text.ensures (next _ _ _ _ _ c.put.ensures (last _ _ _ c.put_element.ensures)) in
    whole ∙ ap (λ x. bytes_of " " ++ element_text x) c.record_at.ensures.element
