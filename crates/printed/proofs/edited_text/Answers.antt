-- The counts, behind no bytes.
use mathlib.Core.Path.{refl}
use Rattle.text_rules.specs.Bytes.{bytes_of}
use Rattle.printed.specs.Text.{edited_text}
use Rattle.printed.proofs.edited_text.Goals as goal

pub returns-in-Ok : goal.returns-in-Ok
unfolding bytes_of edited_text
returns-in-Ok c = rw c.in-Ok.is (simp (c.put_counts.ensures.put, c.new-text.ensures) refl)
