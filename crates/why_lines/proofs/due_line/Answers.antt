-- Two numbers and the word behind them.
use mathlib.Core.Path.{ap}
use native.Mathlib.Omega.{arith}
use lib.ListN.{length}
use Rattle.text_rules.specs.Bytes.{bytes_of}
use Rattle.text.proofs.Behind.{last, next, line}
use Rattle.why_rules.specs.Why.{due_line}
use Rattle.why_lines.proofs.due_line.Goals as goal

pub put_numbers-requires : goal.put_numbers-requires
put_numbers-requires c = (omega arith, simp c.new-text.ensures (omega (arith, c.requires)))

pub put-requires : goal.put-requires
put-requires c = (omega arith, omega (arith, c.requires, ap length c.new-text.ensures, c.put_numbers.ensures.within))

pub returns : goal.returns
unfolding bytes_of due_line
returns c =
    let whole = line c.new-text.ensures (next _ _ _ _ _ c.put_numbers.ensures.text (last _ _ _ c.put.ensures)) in
    whole
