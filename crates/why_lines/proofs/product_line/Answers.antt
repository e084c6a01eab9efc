-- Three elements in brackets, the product up to 79 bytes long, and the line feed.
use Prim.Native.Nat.{◌^◌}
use native.Mathlib.Omega.{arith}
use lib.Dec.{lit≤}
use lib.ListN.{length-append}
use Rattle.ring.proofs.Element.{within_le}
use Rattle.text_rules.specs.Bytes.{bytes_of}
use Rattle.text.proofs.Behind.{last, next, line}
use Rattle.listing_rules.proofs.Element.{element_short, element_limit}
use Rattle.why_rules.specs.Why.{product_line}
use Rattle.why_rules.proofs.Lines.{bracketed_length}
use Rattle.why_lines.proofs.product_line.Goals as goal

pub put_bracketed-requires : goal.put_bracketed-requires
put_bracketed-requires c = (omega arith, (simp (c.new-text.ensures, bracketed_length, length-append) (omega (arith, element_short c.args.first c.requires.0)), within_le 32768 (2 ^ 62) _ (omega arith) c.requires.0))

pub put_bracketed-requires-2 : goal.put_bracketed-requires-2
put_bracketed-requires-2 c = (omega arith, (simp (c.put_bracketed.ensures, c.new-text.ensures, bracketed_length, length-append) (omega (arith, element_short c.args.first c.requires.0, element_short c.args.lower c.requires.1)), within_le 32768 (2 ^ 62) _ (omega arith) c.requires.1))

pub put_bracketed-requires-3 : goal.put_bracketed-requires-3
put_bracketed-requires-3 c = (omega arith, (simp (c.put_bracketed-2.ensures, c.put_bracketed.ensures, c.new-text.ensures, bracketed_length, length-append) (omega (arith, element_short c.args.first c.requires.0, element_short c.args.lower c.requires.1, element_limit 16 c.args.product (2 ^ 55) c.requires.2 (lit≤ tt))), within_le (2 ^ 55) (2 ^ 62) _ (lit≤ tt) c.requires.2))

pub put-requires : goal.put-requires
put-requires c = (omega arith, simp (c.put_bracketed-3.ensures, c.put_bracketed-2.ensures, c.put_bracketed.ensures, c.new-text.ensures, bracketed_length, length-append) (omega (arith, element_short c.args.first c.requires.0, element_short c.args.lower c.requires.1, element_limit 16 c.args.product (2 ^ 55) c.requires.2 (lit≤ tt))))

pub returns : goal.returns
unfolding bytes_of product_line
returns c =
    let whole = line c.new-text.ensures (next _ _ _ _ _ c.put_bracketed.ensures (next _ _ _ _ _ c.put_bracketed-2.ensures (next _ _ _ _ _ c.put_bracketed-3.ensures (last _ _ _ c.put.ensures)))) in
    whole
