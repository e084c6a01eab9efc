-- The word and the parts, behind no bytes.
use mathlib.Core.Path.{refl}
use Rattle.text_rules.specs.Bytes.{bytes_of}
use Rattle.printed.specs.Text.{valued_text}
use Rattle.printed.proofs.valued_text.Goals as goal

pub returns-in-Ok : goal.returns-in-Ok
unfolding bytes_of valued_text
returns-in-Ok c = rw c.in-Ok.is (simp (c.put_parts.ensures.put, c.put.ensures, c.new-text.ensures) refl)
