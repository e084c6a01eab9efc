-- Rules 1 and 2 are kept where the directory's check is passed.
use mathlib.Core.Path.{sym}
use borrow.Author.Rules.{rules}
use Rattle.faults.proofs.Passed.{ok_kept}
use Rattle.table_why.proofs.bad.Goals as goal

pub row-requires : goal.row-requires
row-requires g c = (ok_kept _ (sym c.in-Ok.ensures), search rules)
