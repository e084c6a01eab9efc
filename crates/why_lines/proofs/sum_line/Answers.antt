-- Four elements in brackets and the line feed.
use Prim.Native.Nat.{◌^◌}
use native.Mathlib.Omega.{arith}
use lib.ListN.{length-append}
use Rattle.ring.proofs.Element.{within_le}
use Rattle.text_rules.specs.Bytes.{bytes_of}
use Rattle.text.proofs.Behind.{last, next, line}
use Rattle.listing_rules.proofs.Element.{element_short}
use Rattle.why_rules.specs.Why.{sum_line}
use Rattle.why_rules.proofs.Lines.{bracketed_length}
use Rattle.why_lines.proofs.sum_line.Goals as goal

pub put_bracketed-requires : goal.put_bracketed-requires
put_bracketed-requires c = (omega arith, (simp (c.new-text.ensures, bracketed_length, length-append) (omega (arith, element_short c.args.first c.requires.0)), within_le 32768 (2 ^ 62) _ (omega arith) c.requires.0))

pub put_bracketed-requires-2 : goal.put_bracketed-requires-2
put_bracketed-requires-2 c = (omega arith, (simp (c.put_bracketed.ensures, c.new-text.ensures, bracketed_length, length-append) (omega (arith, element_short c.args.first c.requires.0, element_short c.args.lower c.requires.1)), within_le 32768 (2 ^ 62) _ (omega arith) c.requires.1))

pub put_bracketed-requires-3 : goal.put_bracketed-requires-3
put_bracketed-requires-3 c = (omega arith, (simp (c.put_bracketed-2.ensures, c.put_bracketed.ensures, c.new-text.ensures, bracketed_length, length-append) (omega (arith, element_short c.args.first c.requires.0, element_short c.args.lower c.requires.1, element_short c.args.base c.requires.2)), within_le 32768 (2 ^ 62) _ (omega arith) c.requires.2))

pub put_bracketed-requires-4 : goal.put_bracketed-requires-4
put_bracketed-requires-4 c = (omega arith, (simp (c.put_bracketed-3.ensures, c.put_bracketed-2.ensures, c.put_bracketed.ensures, c.new-text.ensures, bracketed_length, length-append) (omega (arith, element_short c.args.first c.requires.0, element_short c.args.lower c.requires.1, element_short c.args.base c.requires.2, element_short c.args.upper c.requires.3)), within_le 32768 (2 ^ 62) _ (omega arith) c.requires.3))

pub put-requires : goal.put-requires
put-requires c = (omega arith, simp (c.put_bracketed-4.ensures, c.put_bracketed-3.ensures, c.put_bracketed-2.ensures, c.put_bracketed.ensures, c.new-text.ensures, bracketed_length, length-append) (omega (arith, element_short c.args.first c.requires.0, element_short c.args.lower c.requires.1, element_short c.args.base c.requires.2, element_short c.args.upper c.requires.3)))

pub returns : goal.returns
unfolding bytes_of sum_line
returns c =
    let back = next _ _ _ _ _ c.put_bracketed-3.ensures (next _ _ _ _ _ c.put_bracketed-4.ensures (last _ _ _ c.put.ensures)) in
    let whole = line c.new-text.ensures (next _ _ _ _ _ c.put_bracketed.ensures (next _ _ _ _ _ c.put_bracketed-2.ensures back)) in
    whole
