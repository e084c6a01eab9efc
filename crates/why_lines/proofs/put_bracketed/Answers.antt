-- The word, the element and the bracket.
use mathlib.Core.List.{append_assoc}
use mathlib.Core.Path.{refl}
use native.Mathlib.Omega.{arith}
use lib.ListN.{length-append}
use Rattle.std.proofs.Common.{rules}
use Rattle.text_rules.specs.Bytes.{bytes_of}
use Rattle.why_rules.specs.Why.{bracketed}
use Rattle.why_rules.proofs.Lines.{bracketed_length}
use Rattle.why_lines.proofs.put_bracketed.Goals as goal

pub put-requires : goal.put-requires
put-requires g c = (search rules, omega (arith, c.requires.room, bracketed_length c.args.before.now c.args.x))

pub put_element-requires : goal.put_element-requires
put_element-requires g c = (search rules, (simp (c.put.ensures, length-append) (omega (arith, c.requires.room, bracketed_length c.args.before.now c.args.x)), c.requires.parts))

pub put-requires-2 : goal.put-requires-2
put-requires-2 g c = (search rules, simp (c.put_element.ensures, c.put.ensures, length-append) (omega (arith, c.requires.room, bracketed_length c.args.before.now c.args.x)))

pub returns : goal.returns
unfolding bytes_of bracketed
returns g c = simp (c.put-2.ensures, c.put_element.ensures, c.put.ensures, append_assoc) refl
