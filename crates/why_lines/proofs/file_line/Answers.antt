-- By whether the file is too large to have been read.
use mathlib.Core.List.{[]}
use mathlib.Core.Path.{◌∙◌, sym}
use native.Mathlib.Omega.{arith}
use Rattle.text_rules.specs.Bytes.{bytes_of}
use Rattle.text_rules.proofs.Fault.{item_room}
use Rattle.text.proofs.Behind.{last, next, line}
use Rattle.why_rules.proofs.Lines.{file_large, file_small}
use Rattle.why_lines.proofs.file_line.Goals as goal

pub put-requires : goal.put-requires
put-requires c = (omega arith, simp c.new-text.ensures (omega arith))

pub returns-then-n-gt65535 : goal.returns-then-n-gt65535
unfolding bytes_of
returns-then-n-gt65535 c = line c.new-text.ensures (last _ _ _ c.put.ensures) ∙ sym (file_large c.args.n c.if-n-gt65535.true)

pub item-requires : goal.item-requires
item-requires c = (omega arith, simp c.new-text.ensures (omega (arith, item_room [] c.args.n c.ranges.n)))

pub put-requires-2 : goal.put-requires-2
put-requires-2 c = (omega arith, simp (c.item.ensures, c.new-text.ensures) (omega (arith, item_room [] c.args.n c.ranges.n)))

pub returns : goal.returns
unfolding bytes_of
returns c = line c.new-text.ensures (next _ _ _ _ _ c.item.ensures (last _ _ _ c.put-2.ensures)) ∙ sym (file_small c.args.n c.if-n-gt65535.false)
