-- Two digits for each byte, or the mark of none, behind a space.
use mathlib.Core.Path.{refl, ap}
use mathlib.Core.List.{[], ◌∷◌, append_assoc}
use native.Mathlib.Omega.{arith}
use lib.ListN.{length, length-append}
use Rattle.std.proofs.Common.{rules}
use Rattle.text_rules.proofs.Hex.{length_hex}
use Rattle.text_rules.specs.Hex.{hex}
use Rattle.printed.specs.Text.{buffer_text}
use Rattle.printed.proofs.put_buffer.Goals as goal

pub put_hex-requires : goal.put_hex-requires
put_hex-requires g c =
    (search rules, omega (arith, c.requires, ap length c.push.ensures, length-append c.args.text.now (32 ∷ []), length_hex c.args.bytes.now))

pub returns-clause-put : goal.returns-clause-put
unfolding buffer_text
returns-clause-put g c = simp (c.put_hex.ensures, c.push.ensures, append_assoc) refl

pub returns-clause-within : goal.returns-clause-within
returns-clause-within g c =
    omega (arith, ap length c.put_hex.ensures, ap length c.push.ensures, length-append c.args.text.now (32 ∷ []), length-append c.push.new.self (hex c.args.bytes.now), length_hex c.args.bytes.now)
