-- Rules 1 and 2 are kept where the directory's check is passed.
use mathlib.Core.Path.{sym}
use Rattle.faults.proofs.Passed.{ok_kept}
use Rattle.table_show.proofs.show.Goals as goal

pub sections-requires : goal.sections-requires
sections-requires g c = ok_kept _ (sym c.in-Ok.ensures)
