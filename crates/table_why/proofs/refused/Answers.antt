-- Rules 1 and 2 are kept where the directory's check is passed.
use mathlib.Core.Path.{sym}
use Rattle.faults.proofs.Passed.{ok_kept}
use Rattle.table_why.proofs.refused.Goals as goal

pub at_digits-requires : goal.at_digits-requires
at_digits-requires g c = ok_kept _ (sym c.in-Ok.ensures)

pub at_leaves-requires : goal.at_leaves-requires
at_leaves-requires g c = ok_kept _ (sym c.in-Ok.ensures)
