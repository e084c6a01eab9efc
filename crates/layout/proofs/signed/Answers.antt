-- The same 16 bits read as a signed number.
use Rattle.layout_rules.proofs.Number.{read}
use Rattle.layout.proofs.signed.Goals as goal

pub returns : goal.returns
returns c = rw (← c.unsigned.ensures.number) (let both = read _ c.unsigned.ensures.within in record { number = both.0; within = both.1 })
