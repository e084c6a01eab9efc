-- Pinned by author_refused, rows_refused and editor_refused (proofs/Outcome.antt): a reader may skip this file. The outcome that a fault of
-- the code states.
use Rattle.std.specs.Prelude.{ℕ}
use Rattle.faults.specs.declared.Fault.{Fault}
use Rattle.faults.specs.declared.Fault.TheVariants.{Author, Rows, Editor}
use Rattle.faults.specs.Outcome.{Group, author, rows, editor, Outcome, refused}

-- whose a fault is, its number and its place
abbrev pub whose : Fault → Group
whose (Author n p) = author
whose (Rows n p) = rows
whose (Editor n p) = editor

abbrev pub number_of : Fault → ℕ
number_of (Author n p) = n
number_of (Rows n p) = n
number_of (Editor n p) = n

abbrev pub place_of : Fault → ℕ
place_of (Author n p) = p
place_of (Rows n p) = p
place_of (Editor n p) = p

-- the outcome that a fault states
abbrev pub refused_by : {F : Type 0} → Fault → Outcome F
refused_by f = refused (whose f) (number_of f) (place_of f)
