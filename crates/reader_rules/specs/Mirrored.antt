-- A file's table is mirrored: negating every digit of a word gives a word, and negates the weight (numeration, specs/Mirrored.antt).
use Rattle.std.specs.Prelude.{List, ℕ}
use Rattle.ring.specs.Element.{negative}
use Rattle.digit_rules.specs.Record.{record_at}
use Rattle.numeration.specs.Mirrored.{Mirrored}
use Rattle.reader_rules.specs.Table.{input_part, leaves_in}

abbrev pub MirroredTable : List ℕ → Type 0
MirroredTable file = Mirrored negative (record_at (input_part file)) (leaves_in file)
