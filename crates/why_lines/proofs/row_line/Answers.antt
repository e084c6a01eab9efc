-- Nine digits at most, between two words.
use native.Mathlib.Omega.{arith}
use lib.ListN.{length, length-append}
use Rattle.text_rules.specs.Bytes.{bytes_of}
use Rattle.text.proofs.Behind.{last, next, line}
use Rattle.layout_rules.specs.Section.{of_degree}
use Rattle.listing_rules.proofs.Lines.{word_short}
use Rattle.why_rules.specs.Why.{row_line}
use Rattle.why_lines.proofs.row_line.Goals as goal

pub put_word-requires : goal.put_word-requires
put_word-requires c = (omega arith, simp (c.put.ensures, c.new-text.ensures, length-append) (omega (arith, c.requires, word_short (of_degree c.args.degree c.args.inputs.now) (λ k. omega (arith, (c.type_inv.inputs k).fits)) 0 (omega arith) c.args.string.now (length c.args.string.now))))

pub put-requires-2 : goal.put-requires-2
put-requires-2 c = (omega arith, simp (c.put_word.ensures, c.put.ensures, c.new-text.ensures, length-append) (omega (arith, c.requires, word_short (of_degree c.args.degree c.args.inputs.now) (λ k. omega (arith, (c.type_inv.inputs k).fits)) 0 (omega arith) c.args.string.now (length c.args.string.now))))

pub returns : goal.returns
unfolding bytes_of row_line
returns c =
    let whole = line c.new-text.ensures (next _ _ _ _ _ c.put.ensures (next _ _ _ _ _ c.put_word.ensures (last _ _ _ c.put-2.ensures))) in
    whole
