-- A space, and behind it the text of the digit at the right of the column.
use mathlib.Core.Path.{refl}
use mathlib.Core.List.{append_assoc}
use native.Mathlib.Omega.{arith}
use lib.ListN.{length-append}
use Rattle.std.proofs.Common.{rules}
use Rattle.text_rules.specs.Bytes.{bytes_of}
use Rattle.listing_rules.specs.Listing.{column_text}
use Rattle.leaf_lines.proofs.put_column.Goals as goal

pub put-requires : goal.put-requires
unfolding column_text bytes_of
put-requires g c = (search rules, omega (arith, c.requires))

pub put_right-requires : goal.put_right-requires
unfolding column_text bytes_of
put_right-requires g c = (search rules, simp (c.put.ensures, c.as_bytes.ensures.same, c.digit_text.ensures, length-append) (omega (arith, c.requires)))

pub returns : goal.returns
unfolding column_text bytes_of
returns g c = simp (c.put_right.ensures, c.put.ensures, c.as_bytes.ensures.same, c.digit_text.ensures, append_assoc) refl
