-- The parts of each degree, one behind the other.
use mathlib.Core.Path.{refl}
use mathlib.Core.List.{append_assoc}
use mir.Syntax.{w32}
use mir.ValLaws.{to_z-of_z}
use borrow.Author.Rules.{rules}
use Rattle.printed.specs.Text.{parts_text}
use Rattle.printed.proofs.put_parts.Goals as goal

pub returns-in-Two-clause-put : goal.returns-in-Two-clause-put
unfolding parts_text
returns-in-Two-clause-put g c = rw c.in-Two.is (simp (c.put_part-2.ensures.put, c.put_part.ensures.put, append_assoc, to_z-of_z w32 c.args.x.a (search rules), to_z-of_z w32 c.args.x.b (search rules)) refl)

pub returns-in-Three-clause-put : goal.returns-in-Three-clause-put
unfolding parts_text
returns-in-Three-clause-put g c =
    rw c.in-Three.is (simp (c.put_part-in-Three.ensures.put, c.put_part-2.ensures.put, c.put_part.ensures.put, append_assoc, to_z-of_z w32 c.args.x.a (search rules), to_z-of_z w32 c.args.x.b (search rules), to_z-of_z w32 c.args.x.c (search rules)) refl)

pub returns-in-Four-clause-put : goal.returns-in-Four-clause-put
unfolding parts_text
returns-in-Four-clause-put g c =
    rw c.in-Four.is (simp (c.put_part-in-Four-2.ensures.put, c.put_part-in-Four.ensures.put, c.put_part-2.ensures.put, c.put_part.ensures.put, append_assoc, to_z-of_z w32 c.args.x.a (search rules), to_z-of_z w32 c.args.x.b (search rules), to_z-of_z w32 c.args.x.c (search rules), to_z-of_z w32 c.args.x.d (search rules)) refl)
