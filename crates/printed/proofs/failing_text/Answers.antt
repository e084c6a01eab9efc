-- The counts, the word and the parts, one behind the other.
use mathlib.Core.Path.{refl}
use mathlib.Core.List.{append_assoc}
use Rattle.text_rules.specs.Bytes.{bytes_of}
use Rattle.printed.specs.Text.{failing_text}
use Rattle.printed.proofs.failing_text.Goals as goal

pub returns : goal.returns
unfolding bytes_of failing_text
returns c = simp (c.put_parts.ensures.put, c.put.ensures, c.put_counts.ensures.put, c.new-text.ensures, append_assoc) refl
