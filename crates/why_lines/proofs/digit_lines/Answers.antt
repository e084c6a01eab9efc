-- A word and the digit, twice, and a last word; the digit takes at most 51 bytes.
use Prim.Native.Nat.{◌^◌}
use native.Mathlib.Omega.{arith}
use lib.Dec.{lit≤}
use lib.ListN.{length-append}
use Rattle.ring.proofs.Element.{within_le}
use Rattle.text_rules.specs.Bytes.{bytes_of}
use Rattle.text.proofs.Behind.{last, next, line}
use Rattle.listing_rules.proofs.Element.{element_limit}
use Rattle.why_rules.specs.Why.{digit_lines}
use Rattle.why_lines.proofs.digit_lines.Goals as goal

pub put_element-requires : goal.put_element-requires
put_element-requires c =
    (omega arith, (simp (c.put.ensures, c.new-text.ensures, length-append) (omega (arith, element_limit 9 c.args.digit (2 ^ 32) c.requires (lit≤ tt))), within_le (2 ^ 32) (2 ^ 62) _ (lit≤ tt) c.requires))

pub put-requires-2 : goal.put-requires-2
put-requires-2 c = (omega arith, simp (c.put_element.ensures, c.put.ensures, c.new-text.ensures, length-append) (omega (arith, element_limit 9 c.args.digit (2 ^ 32) c.requires (lit≤ tt))))

pub put_element-requires-2 : goal.put_element-requires-2
put_element-requires-2 c =
    (omega arith, (simp (c.put-2.ensures, c.put_element.ensures, c.put.ensures, c.new-text.ensures, length-append) (omega (arith, element_limit 9 c.args.digit (2 ^ 32) c.requires (lit≤ tt))), within_le (2 ^ 32) (2 ^ 62) _ (lit≤ tt) c.requires))

pub put-requires-3 : goal.put-requires-3
put-requires-3 c =
    (omega arith, simp (c.put_element-2.ensures, c.put-2.ensures, c.put_element.ensures, c.put.ensures, c.new-text.ensures, length-append) (omega (arith, element_limit 9 c.args.digit (2 ^ 32) c.requires (lit≤ tt))))

pub returns : goal.returns
unfolding bytes_of digit_lines
returns c =
    let back = next _ _ _ _ _ c.put-2.ensures (next _ _ _ _ _ c.put_element-2.ensures (last _ _ _ c.put-3.ensures)) in
    let whole = line c.new-text.ensures (next _ _ _ _ _ c.put.ensures (next _ _ _ _ _ c.put_element.ensures back)) in
    whole
