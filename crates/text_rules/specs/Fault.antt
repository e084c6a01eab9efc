-- For the programs' output only; a reader may skip this file. A fault as text: `refused GROUP N place P`, GROUP being author, rows or editor (the format of the outside vectors).
use Rattle.std.specs.Prelude.{List, ◌++◌, ℕ}
use Rattle.faults.specs.declared.Fault.{Fault}
use Rattle.faults.specs.Outcome.{Group, author, rows, editor}
use Rattle.faults.specs.Stated.{whose, number_of, place_of}
use Rattle.text_rules.specs.Bytes.{bytes_of}
use Rattle.text_rules.specs.Decimal.{decimal}

-- the words between the numbers
unfoldable pub refused_word : List ℕ
refused_word = bytes_of "refused "

unfoldable pub place_word : List ℕ
place_word = bytes_of " place "

-- the words for the groups
unfoldable pub group_word : Group → List ℕ
group_word author = bytes_of "author "
group_word rows = bytes_of "rows "
group_word editor = bytes_of "editor "

unfoldable pub fault_text : Fault → List ℕ
fault_text fault = refused_word ++ (group_word (whose fault) ++ (decimal (number_of fault) ++ (place_word ++ decimal (place_of fault))))
