-- A digit of the word, `?` for a word that is empty, nothing past its end.
use Rattle.layout_rules.specs.Section.{of_degree}
use Rattle.listing_rules.proofs.Lines.{digit_there, digit_unread, digit_past}
use Rattle.text_rules.specs.Bytes.{bytes_of}
use Rattle.text.proofs.Behind.{last, line}
use Rattle.leaf_lines.proofs.digit_text.Goals as goal

pub returns-then-i-word : goal.returns-then-i-word
returns-then-i-word c =
    let a = c.args in
    rw (digit_there (of_degree a.degree a.inputs.now) a.word.now a.i c.if-i-word.true) (rw c.from.ensures at c.input_text.ensures)

pub returns-then-i-eq0 : goal.returns-then-i-eq0
unfolding bytes_of
returns-then-i-eq0 c =
    let a = c.args in
    rw (digit_unread (of_degree a.degree a.inputs.now) a.word.now a.i c.if-i-word.false c.if-i-eq0.true) (line c.new-text.ensures (last _ _ _ c.put.ensures))

pub returns-else-i-eq0 : goal.returns-else-i-eq0
returns-else-i-eq0 c =
    let a = c.args in
    rw (digit_past (of_degree a.degree a.inputs.now) a.word.now a.i c.if-i-word.false c.if-i-eq0.false) c.new-text.ensures
