-- The record, or `?` where there is none.
use Prim.Native.Nat.{◌^◌}
use mathlib.Core.Path.{ap, ◌∙◌}
use native.Mathlib.Omega.{arith}
use Rattle.ring.proofs.Element.{within_le}
use Rattle.text_rules.specs.Bytes.{bytes_of}
use Rattle.text.proofs.Behind.{last, line}
use Rattle.layout_rules.specs.Section.{of_degree}
use Rattle.listing_rules.specs.Element.{element_text}
use Rattle.listing_rules.proofs.Lines.{input_there, input_missing}
use Rattle.listing_rules.proofs.Element.{element_short}
use Rattle.leaf_lines.proofs.input_text.Goals as goal

pub put_element-requires : goal.put_element-requires
put_element-requires c = (omega arith, (simp c.new-text.ensures (omega (arith, element_short _ c.record_at.ensures.within)), within_le 32768 (2 ^ 62) _ (omega arith) c.record_at.ensures.within))

pub returns-then-k-record_count : goal.returns-then-k-record_count
returns-then-k-record_count c =
    rw (input_there (of_degree c.args.degree c.args.inputs.now) c.args.k (omega arith)) (line c.new-text.ensures (last _ _ _ c.put_element.ensures) ∙ ap element_text c.record_at.ensures.element)

pub returns-else-k-record_count : goal.returns-else-k-record_count
unfolding bytes_of
returns-else-k-record_count c = rw (input_missing (of_degree c.args.degree c.args.inputs.now) c.args.k (omega arith)) (line c.new-text.ensures (last _ _ _ c.put.ensures))
