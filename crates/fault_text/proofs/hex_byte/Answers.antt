-- Digits below ten and from ten on are apart.
use mathlib.Core.Path.{sym}
use Rattle.text_rules.proofs.Hex.{hex_low, hex_high}
use Rattle.fault_text.proofs.hex_byte.Goals as goal

pub returns-then-d-lt10 : goal.returns-then-d-lt10
returns-then-d-lt10 c = sym (hex_low c.args.d c.if-d-lt10.true)

pub returns-else-d-lt10 : goal.returns-else-d-lt10
returns-else-d-lt10 c = sym (hex_high c.args.d c.if-d-lt10.false)
